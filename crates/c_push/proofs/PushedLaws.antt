-- The record that bytes hold after a push is the record that the push gives.
use Prim.Native.Nat.{ℕ, ◌+◌, ◌≤◌}
use mathlib.Core.Path.{◌≡◌, refl, sym, ap, ◌∙◌}
use mathlib.Core.Bool.{Bool, false}
use mathlib.Core.List.{List, [], ◌∷◌}
use native.Mathlib.Omega.{arith}
use lib.ListN.{length}
use lib.Dec.{eqb}
use lib.IntN.{ℤ}
use mir.Syntax.{w16}
use mir.Val.{Val, SFits}
use denote.Array.{each}
use denote.Shadow.{shadow}
use denote.Signed.{SInt}
use borrow.Author.Tests.{eq-eqb, ne_eqb, eqb-true, eqb-false}
use Rattle.layout.specs.Lists.{All}
use Rattle.layout.specs.Puts.{put_at}
use Rattle.layout.proofs.Cases.{by_cases}
use Rattle.layout.proofs.PutLaws.{put_at-length}
use Rattle.writer.specs.Loading.{empty_push, push_refusal, push_args}
use Rattle.writer.specs.Push.{advanced}
use Rattle.writer.specs.Calls.{state_in, taken_of, push_of, Good}
use Rattle.writer.proofs.GoodLaws.{block_good}
use Rattle.writer.specs.declared.ChannelBlock.{ChannelBlock}
use Rattle.writer.specs.declared.Cue.{Cue}
use Rattle.writer_assign_cues.specs.declared.Taken.{Taken}
use Rattle.c_record.specs.Fields.{writer_of, fields_of, fields_with}
use Rattle.writer.specs.declared.Stream.{Stream}
use Rattle.writer_push_plan.specs.PushPlan.{Planned}
use Rattle.c_record.specs.declared.Fields.{Fields}
use Rattle.c_record.specs.KeptSides.{side_in, table_in, cues_at, left_at, right_at, loader_size}
use Rattle.c_record.proofs.SameLaws.{side_same}
use Rattle.c_record_put.specs.KeptNumbers.{number_bytes}
use Rattle.c_record_put.proofs.NumberLaws.{numbers_length}
use Rattle.c_record.specs.KeptWriter.{fields_in, stream_in, writer_in}
use Rattle.c_record.proofs.KeptLaws.{kept_good}
use Rattle.writer_push.proofs.PushLaws.{Worked, due-is, advances, after_is}
use Rattle.c_record_put.proofs.SameLaws.{same_after}
use Rattle.c_record_put.proofs.ThereLaws.{put-there}
use Rattle.c_record_put.specs.KeptRecord.{pushed_bytes}
use Rattle.c_loading.proofs.AfterLaws.{holds}
use Rattle.c_loading.proofs.BackLaws.{Long, numbers_back, SideFits, record_back, whole_back}

-- ---- The bytes that are put

module _ (k : List ℕ) (room : loader_size ≤ length k) (s : Fields) (t : List Cue) (g : Good (writer_of t s)) (ch : Long s.setup.channels) where
  numbers_alone : side_in k left_at ≡ s.stream.left → side_in k right_at ≡ s.stream.right → writer_in (put_at k 0 (number_bytes s)) ≡ writer_of (table_in k cues_at s.count) s
  numbers_alone l r =
      let bs = number_bytes s in
      let k' = put_at k 0 bs in
      let n = numbers_length s in
      let long = put_at-length k 0 bs in
      let b = (same_after k 0 bs (omega arith) (0 + length bs) loader_size (omega arith)).byte in
      let left = side_same k' k (0 + length bs) loader_size b long left_at (omega arith) (omega arith) ∙ l in
      let right = side_same k' k (0 + length bs) loader_size b long right_at (omega arith) (omega arith) ∙ r in
      record_back k k' s t room long g (numbers_back k' s t g ch (put-there k 0 bs (omega arith)) left right) (λ i x y. b i (omega arith) y)

  pushed_back : (s.stream.blocks ≡ 1 → SideFits s.stream.left × SideFits s.stream.right) → ((s.stream.blocks ≡ 1 → ⊥) → (side_in k left_at ≡ s.stream.left) × (side_in k right_at ≡ s.stream.right))
      → writer_in (put_at k 0 (pushed_bytes s)) ≡ writer_of (table_in k cues_at s.count) s
  unfolding pushed_bytes
  pushed_back first later =
      by_cases (eqb s.stream.blocks 1)
      (λ q. let f = first (eqb-true s.stream.blocks 1 q) in rw q (whole_back k room s t g ch f.0 f.1))
      (λ q. let f = later (eqb-false s.stream.blocks 1 q) in rw q (numbers_alone f.0 f.1))

-- ---- After a push

side-there : (k : List ℕ) → ((fields_in k).stream.left ≡ side_in k left_at) × ((fields_in k).stream.right ≡ side_in k right_at)
unfolding fields_in
side-there k = (refl, refl)

module _ (k : List ℕ) (some : (stream_in k).setup.slot ≡ 0 → ⊥) {ch : ℕ} {l r : ChannelBlock} {ld rd : List ℕ} {last : Bool} {lent : List ℕ} {end : ℕ} {t : Taken} {held : Bool} {plan : Planned}
    (w : Worked (writer_in k) ch l r ld rd last lent end t held plan) (z : plan.due ≡ 0) (block : empty_push (push_args ch l r ld rd last) ≡ false)
    (fl : SideFits l) (fr : SideFits r) (long : Long (stream_in k).setup.channels) where
  abbrev next : Fields
  next = fields_with (stream_in k) plan.after

  next_good : Good (writer_of (table_in k cues_at (stream_in k).count) next)
  next_good = rw (after_is w z block) (block_good (writer_in k) (push_args ch l r ld rd last) (length lent) (kept_good k) block (sym (due-is w) ∙ z))

  first_fits : next.stream.blocks ≡ 1 → SideFits next.stream.left × SideFits next.stream.right
  unfolding advanced
  first_fits e =
      let a = advances w z block in
      let none : (stream_in k).stream.blocks ≡ 0 = omega (arith, e, ap (λ (m : Stream). m.blocks) a) in
      rw (a, eq-eqb (stream_in k).stream.blocks 0 none) (fl, fr)

  later_there : (next.stream.blocks ≡ 1 → ⊥) → (side_in k left_at ≡ next.stream.left) × (side_in k right_at ≡ next.stream.right)
  unfolding advanced
  later_there h =
      let there = (holds k some).is in
      let e = side-there k in
      let a = advances w z block in
      rw (a, ne_eqb (stream_in k).stream.blocks 0 (λ n. h (ap (λ (m : Stream). m.blocks) a ∙ ap (λ (m : ℕ). m + 1) n)))
      (sym (ap (λ (s : Fields). s.stream.left) there ∙ e.0), sym (ap (λ (s : Fields). s.stream.right) there ∙ e.1))

  kept_there : (next.setup.channels ≡ (stream_in k).setup.channels) × (next.count ≡ (stream_in k).count)
  kept_there = (refl, refl)

  pub push_after : writer_in (put_at k 0 (pushed_bytes next)) ≡ (push_of (writer_in k) (push_args ch l r ld rd last) lent).writer
  unfolding push_of
  push_after =
      let p = push_args ch l r ld rd last in
      let is = kept_there in
      rw (eq-eqb (push_refusal (state_in (writer_in k)) (taken_of (writer_in k) p) p (length lent)) 0 (sym (due-is w) ∙ z), block)
      (pushed_back k (holds k some).room next (table_in k cues_at (stream_in k).count) next_good (omega arith) first_fits later_there
      ∙ ap (λ (n : ℕ). writer_of (table_in k cues_at n) next) is.1 ∙ after_is w z block)

  pub push_stream : next ≡ fields_of (push_of (writer_in k) (push_args ch l r ld rd last) lent).writer
  unfolding push_of
  push_stream =
      let p = push_args ch l r ld rd last in
      rw (eq-eqb (push_refusal (state_in (writer_in k)) (taken_of (writer_in k) p) p (length lent)) 0 (sym (due-is w) ∙ z), block) (ap fields_of (after_is w z block))

-- ---- The elements of an array of i16 that is a field

pub signed_field : (zs : List ℤ) (us : List Val) → shadow (each ℤ (SInt w16).own_val zs us) → All (SFits w16) zs
signed_field [] us p = All.none
signed_field (z ∷ zs) [] p = absurd p
signed_field (z ∷ zs) (u ∷ us) p = All.more (record { sfits = p.0.1 }) (signed_field zs us p.1)
