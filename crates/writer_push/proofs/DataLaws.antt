-- The data of a block, and its parts put one after the other.
use Prim.Native.Nat.{ℕ, ◌+◌, ◌*◌, ◌<◌, ◌≤◌}
use mathlib.Core.Path.{◌≡◌, ap, sym, ◌∙◌}
use mathlib.Core.List.{List, ◌++◌, append_assoc, append-nil, flat_map}
use native.Mathlib.Omega.{arith}
use borrow.Author.Tests.{eq-eqb, ne_eqb}
use lib.ListN.{length}
use lib.Dec.{eqb}
use Rattle.layout.specs.Records.{padded_size, padded, size_of, block_header, block_bytes, data_after}
use Rattle.layout.specs.Puts.{put_at}
use Rattle.layout.specs.Sizes.{saturated}
use Rattle.layout.specs.declared.BlockHeader.{BlockHeader}
use Rattle.layout.proofs.Lengths.{padded-length, data_length_lem}
use Rattle.layout.proofs.Cases.{by_cases}
use Rattle.layout.proofs.SizeLaws.{aligned}
use Rattle.layout.proofs.PutLaws.{put_at_out, put_then}
use Rattle.layout_put_block.specs.HeaderPut.{header_put}
use Rattle.layout_put_block.proofs.WrittenLaws.{put_length_32, header_put-is}
use Rattle.writer.specs.Loading.{data_in, second_context, points, points_of, data_size}
use Rattle.writer.specs.declared.ChannelBlock.{ChannelBlock}
use Rattle.writer.specs.declared.Cue.{Cue}
use Rattle.writer.proofs.CueLaws.{points-length}
use Rattle.writer.proofs.WriteLaws.{data_size_lem}
use Rattle.writer_assign_cues.specs.Taking.{point_bytes, filled_bytes}
use Rattle.writer_assign_cues.proofs.PointLaws.{taken_length}
use Rattle.writer_push_plan.specs.PushPlan.{header_in}
use Rattle.layout.specs.Refusals.{cue_limit}

-- ---- The data

module _ (l x z : List ℕ) (at ch : ℕ) where
  pub mono-put : (b : List ℕ) → (ch ≡ 2 → ⊥) → b ≡ put_at l at (padded x) → b ≡ put_at l at (flat_map padded (data_in ch x z))
  unfolding flat_map
  mono-put b h e = rw (ne_eqb ch 2 h, append-nil) e

  data_long : length (flat_map padded (data_in ch x z)) ≡ data_size ch (length x) (length z)
  data_long = data_length_lem (data_in ch x z) ∙ data_size_lem ch x z

  module _ (long : length x < 9223372036854775808) (y : ℕ) (ey : y ≡ saturated (padded_size (length x))) where
    exact : y ≡ padded_size (length x)
    exact = ey ∙ aligned (length x) (omega arith)

    pub first_out : length l < at + y → l ≡ put_at l at (flat_map padded (data_in ch x z))
    unfolding data_size
    first_out h =
        let most : padded_size (length x) ≤ data_size ch (length x) (length z) = by_cases (eqb ch 2) (λ q. rw q (omega arith)) (λ q. rw q (omega arith)) in
        sym (put_at_out l at _ (omega (arith, data_long, exact)))

    module _ (h : ch ≡ 2) (long' : length z < 9223372036854775808) (y' : ℕ) (ey' : y' ≡ saturated (padded_size (length z))) where
      both : data_size ch (length x) (length z) ≡ padded_size (length x) + padded_size (length z)
      unfolding data_size
      both = rw (eq-eqb ch 2 h)

      exact' : y' ≡ padded_size (length z)
      exact' = ey' ∙ aligned (length z) (omega arith)

      pub second_out : length l < at + y + y' → l ≡ put_at l at (flat_map padded (data_in ch x z))
      second_out k = sym (put_at_out l at _ (omega (arith, data_long, both, exact, exact')))

      pub stereo-put : at + y + y' ≤ length l → (b b' : List ℕ) → b ≡ put_at l at (padded x) → b' ≡ put_at b (at + y) (padded z)
          → b' ≡ put_at l at (flat_map padded (data_in ch x z))
      unfolding flat_map
      stereo-put room b b' e f =
          rw (eq-eqb ch 2 h, append-nil)
          (put_then (record { size = padded-length x; is = e }) (padded z) (padded-length z) f (ap (λ (m : ℕ). at + m) exact) (omega (arith, exact, exact'))).is

-- ---- The whole block

module _ (base id k ch : ℕ) (cs : List Cue) (l r : ChannelBlock) (ld rd o : List ℕ) (next : ℕ)
    (counted : k ≡ points cs) (few : k ≤ cue_limit) (room : data_after k + data_size ch (length ld) (length rd) ≤ length o) where
  abbrev head : BlockHeader
  head = header_in k ch l r (length ld) (length rd) next

  parts : header_put head ++ filled_bytes base id cs ++ flat_map padded (data_in ch ld rd)
      ≡ block_bytes next l.length l.context (second_context ch r) (points_of base id cs) (data_in ch ld rd)
  unfolding header_in block_bytes block_header filled_bytes point_bytes
  parts =
      let a = header_put-is head (omega arith) in
      let b : data_size ch (length ld) (length rd) ≡ size_of (data_in ch ld rd) = sym (data_size_lem ch ld rd) in
      let c : k ≡ length (points_of base id cs) = counted ∙ sym (points-length base id cs) in
      rw (a, b, c, ← points-length base id cs) (simp append_assoc)

  pub block-put : (h : BlockHeader) → h ≡ header_in k ch l r (length ld) (length rd) next → (b₁ b₂ b₃ : List ℕ) (x : ℕ) → x ≡ data_after k
      → b₁ ≡ put_at o 0 (header_put h) → b₂ ≡ put_at b₁ 32 (filled_bytes base id cs) → b₃ ≡ put_at b₂ x (flat_map padded (data_in ch ld rd))
      → b₃ ≡ put_at o 0 (block_bytes next l.length l.context (second_context ch r) (points_of base id cs) (data_in ch ld rd))
  block-put h eh b₁ b₂ b₃ x ex e₁ e₂ e₃ =
      let lf : length (filled_bytes base id cs) ≡ padded_size (8 * k) = taken_length base id cs ∙ ap (λ (m : ℕ). padded_size (8 * m)) (sym counted) in
      let le : length (flat_map padded (data_in ch ld rd)) ≡ data_size ch (length ld) (length rd) = data_length_lem (data_in ch ld rd) ∙ data_size_lem ch ld rd in
      let p₁ = put_then (record { size = put_length_32 head; is = e₁ ∙ ap (λ (m : BlockHeader). put_at o 0 (header_put m)) eh }) (filled_bytes base id cs) lf e₂ (omega arith) (omega arith) in
      let p₂ = put_then p₁ (flat_map padded (data_in ch ld rd)) le e₃ (omega arith) (omega arith) in
      p₂.is ∙ ap (put_at o 0) parts
