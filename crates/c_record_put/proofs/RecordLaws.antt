-- The record's sides, and the record after a push, put piece after piece.
use Prim.Native.Nat.{ℕ, ◌+◌, ◌*◌, ◌%◌, ◌≤◌}
use mathlib.Core.Path.{◌≡◌, refl, ap, ◌∙◌}
use mathlib.Core.List.{List, ◌++◌, flat_map}
use native.Mathlib.Omega.{arith}
use lib.ListN.{length, length-append}
use Rattle.layout.specs.Puts.{put_at}
use Rattle.layout.specs.Records.{be16, be32, be_z16, context_bytes}
use Rattle.layout.proofs.Lengths.{be16-length, be32-length, context-length, coefficients_length}
use Rattle.layout.proofs.PutLaws.{Put, put_then}
use Rattle.writer.specs.declared.ChannelBlock.{ChannelBlock}
use Rattle.c_record.specs.declared.Fields.{Fields}
use Rattle.c_record_put.specs.KeptNumbers.{number_bytes}
use Rattle.c_record_put.proofs.NumberLaws.{numbers_length}
use Rattle.c_record_put.specs.KeptRecord.{side_bytes, record_bytes, pushed_bytes}
use borrow.Author.Tests.{eq-eqb, ne_eqb}
use Rattle.c_record.specs.KeptSides.{cues_at, left_at, right_at, side_size}

-- ---- A side

pub side-length : (b : ChannelBlock) → length b.coefficients ≡ 16 → length (side_bytes b) ≡ side_size
unfolding side_bytes
side-length b h =
    simp (length-append, be32-length, be16-length, context-length)
    (omega (arith, h, coefficients_length b.coefficients))

pub side-put : (k k₁ k₂ k₃ k₄ : List ℕ) {k₅ : List ℕ} (at : ℕ) (b : ChannelBlock) → at + side_size ≤ length k → length b.coefficients ≡ 16 → k₁ ≡ put_at k at (be32 b.rate)
    → k₂ ≡ put_at k₁ (at + 4) (be32 (b.length % 4294967296)) → k₃ ≡ put_at k₂ (at + 8) (flat_map be_z16 b.coefficients)
    → k₄ ≡ put_at k₃ (at + 40) (be16 b.gain) → k₅ ≡ put_at k₄ (at + 42) (context_bytes b.context) → k₅ ≡ put_at k at (side_bytes b)
unfolding side_bytes
side-put k k₁ k₂ k₃ k₄ at b room h e₁ e₂ e₃ e₄ e₅ =
    let n : length (flat_map be_z16 b.coefficients) ≡ 32 = coefficients_length b.coefficients ∙ ap (λ (x : ℕ). 2 * x) h in
    let p : Put k at 4 (be32 b.rate) _ = record { size = be32-length _; is = e₁ } in
    let q = put_then p (be32 (b.length % 4294967296)) (be32-length _) e₂ refl (omega arith) in
    let r = put_then q (flat_map be_z16 b.coefficients) n e₃ refl (omega arith) in
    let t = put_then r (be16 b.gain) (be16-length _) e₄ refl (omega arith) in
    (put_then t (context_bytes b.context) (context-length _) e₅ refl (omega arith)).is

pub sides_put : (k k₁ : List ℕ) {k₂ : List ℕ} (l r : ChannelBlock) → cues_at ≤ length k → length l.coefficients ≡ 16 → length r.coefficients ≡ 16
    → k₁ ≡ put_at k left_at (side_bytes l) → k₂ ≡ put_at k₁ right_at (side_bytes r) → k₂ ≡ put_at k left_at (side_bytes l ++ side_bytes r)
sides_put k k₁ l r room hl hr e₁ e₂ =
    let p : Put k left_at side_size (side_bytes l) _ = record { size = side-length l hl; is = e₁ } in
    (put_then p (side_bytes r) (side-length r hr) e₂ refl (omega arith)).is

-- ---- The bytes that are put

module _ (k k₁ : List ℕ) (s : Fields) (is : k₁ ≡ put_at k 0 (number_bytes s)) where
  pub record_put : {k₂ : List ℕ} → cues_at ≤ length k → length s.stream.left.coefficients ≡ 16 → length s.stream.right.coefficients ≡ 16
      → k₂ ≡ put_at k₁ left_at (side_bytes s.stream.left ++ side_bytes s.stream.right) → k₂ ≡ put_at k 0 (record_bytes s)
  unfolding record_bytes
  record_put room l r e =
      let p : Put k 0 left_at (number_bytes s) k₁ = record { size = numbers_length s; is = is } in
      let n : length (side_bytes s.stream.left ++ side_bytes s.stream.right) ≡ 96 = length-append (side_bytes s.stream.left) (side_bytes s.stream.right)
      ∙ omega (arith, side-length s.stream.left l, side-length s.stream.right r) in
      (put_then p (side_bytes s.stream.left ++ side_bytes s.stream.right) n e refl (omega arith)).is

  pub first-put : {k₂ : List ℕ} → s.stream.blocks ≡ 1 → k₂ ≡ put_at k 0 (record_bytes s) → k₂ ≡ put_at k 0 (pushed_bytes s)
  unfolding pushed_bytes
  first-put h e = rw (eq-eqb s.stream.blocks 1 h) e

  pub later_put : (s.stream.blocks ≡ 1 → ⊥) → k₁ ≡ put_at k 0 (pushed_bytes s)
  unfolding pushed_bytes
  later_put h = rw (ne_eqb s.stream.blocks 1 h) is
