-- For the proof of cue: the cue at its place, and what the call leaves.
use Rattle.std.proofs.Common.{◌≡◌, ℕ, zero, suc, ◌+◌, ◌-◌, ◌<◌, ◌≤◌, Bool, true, false, Option, List, [], ◌∷◌, ◌++◌, length, take, drop, refl, sym, ap, ◌∙◌, append_assoc, arith}
use Rattle.std.proofs.Math.Nat.{sub-zero}
use Rattle.std.proofs.Math.ListN.{length-take}
use Rattle.std.proofs.Math.Seq.{take-take, take-nil}
use Rattle.std.specs.Prelude.{ltb}
use borrow.Author.Tests.{leb-false, ltb-false}
use Rattle.std.specs.List.{position, position_or_len}
use Rattle.std.specs.Option.{unwrap_or}
use Rattle.std.proofs.lemmas.List.Recursion.{is_position_or_len}
use Rattle.layout.specs.Answers.{number_of}
use Rattle.layout.specs.Choice.{◌or◌}
use Rattle.layout.specs.Lists.{first_index}
use Rattle.layout.specs.Refusals.{start_limit, cue_limit}
use Rattle.layout.specs.declared.refusal.Refusal.{Refusal}
use Rattle.layout.proofs.Cases.{by_cases}
use Rattle.writer.specs.Loading.{zero_range, before, has, insert, cue_order, cue_refusal}
use Rattle.writer.specs.declared.Cue.{Cue}
use Rattle.writer.specs.declared.HpsWriter.{HpsWriter}
use Rattle.writer.specs.Calls.{Handed, refuses, accepts, held, with_table, after_cue, cue_of, Good}
use Rattle.writer.proofs.DueLaws.{passed_cue, is_refused, is_accepted}

-- ---- The cue at its place

place_most : (c : Cue) (cs : List Cue) → first_index (before c) cs ≤ length cs
unfolding first_index
place_most c [] = omega arith
place_most c (d ∷ ds) = by_cases (before c d) (λ q. rw q (omega arith)) (λ q. rw q (omega (arith, place_most c ds)))

is_first : (c : Cue) (cs : List Cue) → first_index (before c) cs ≡ position_or_len (before c) cs
unfolding first_index
is_first c cs = is_position_or_len (first_index (before c)) (before c) refl (λ d ds. by_cases (before c d) (λ q. rw q) (λ q. rw q (omega arith))) cs

-- where a cue goes: the first index whose cue it comes before, else past them all
pub place_is : (c : Cue) (cs : List Cue) {o : Option ℕ} {n p : ℕ} → o ≡ position (before c) cs → p ≡ unwrap_or o n → n ≡ length cs → p ≡ first_index (before c) cs
place_is c cs {o} {n} {p} f u e =
    u ∙ rw (f, is_first c cs)
    (by_cases (ltb (position_or_len (before c) cs) (length cs)) (λ q. rw q) (λ q. rw q (omega (arith, ltb-false _ _ q, is_first c cs, place_most c cs))))

inserted : (c : Cue) (cs : List Cue) → insert c cs ≡ take (first_index (before c) cs) cs ++ (c ∷ drop (first_index (before c) cs) cs)
unfolding first_index insert
inserted c [] = refl
inserted c (d ∷ ds) = by_cases (before c d) (λ q. rw q) (λ q. rw q (ap (λ (l : List Cue). d ∷ l) (inserted c ds)))

drop_take : (i n : ℕ) (t : List Cue) → drop i (take n t) ≡ take (n - i) (drop i t)
drop_take zero n t = rw sub-zero
drop_take (suc i) zero t = let z : 0 - suc i ≡ 0 = omega arith in rw z
drop_take (suc i) (suc n) [] = sym (take-nil (suc n - suc i))
drop_take (suc i) (suc n) (x ∷ t) = let z : suc n - suc i ≡ n - i = omega arith in rw z (drop_take i n t)

-- ---- The call

module _ (w : HpsWriter) (c : Cue) (g : Good w) where
  pub held_count : length (held w) ≡ w.table.count
  held_count = length-take w.table.count w.table.cues ∙ omega (arith, g.few, g.table)

  module _ {i : ℕ} (ei : i ≡ first_index (before c) (held w)) where
    pub put_inside : i ≤ w.table.count
    put_inside = omega (arith, ei, place_most c (held w), held_count)

    pub put_is : {u : List Cue} → u ≡ take i w.table.cues ++ (c ∷ (take (w.table.count - i) (drop i w.table.cues) ++ drop (w.table.count + 1) w.table.cues))
        → u ≡ insert c (held w) ++ drop (w.table.count + 1) w.table.cues
    put_is eu =
        let il : i ≤ w.table.count = put_inside in
        eu ∙ rw (inserted c (held w), ← ei, take-take i w.table.count w.table.cues il, drop_take i w.table.count w.table.cues) (simp append_assoc)

  module _ {b e : Bool} (eb : b ≡ (ltb start_limit c.start or zero_range c.kind)) (ee : e ≡ has c (held w)) where
    due_is : cue_order w.stream.blocks b e w.table.count ≡ cue_refusal w.stream.blocks (held w) c
    due_is = rw (eb, ee, held_count)

    pub cue_refused : (x : Refusal) → number_of x ≡ cue_order w.stream.blocks b e w.table.count → cue_of w c ≡ refuses w [] (number_of x)
    unfolding cue_of
    cue_refused x h = is_refused w (after_cue w c) [] Handed.none x (h ∙ due_is)

    module _ (h : 0 ≡ cue_order w.stream.blocks b e w.table.count) where
      pub cue_accepted : cue_of w c ≡ accepts (after_cue w c) [] Handed.none
      unfolding cue_of
      cue_accepted = is_accepted w (after_cue w c) [] Handed.none (h ∙ due_is)

      pub equal_adds_nothing : e ≡ true → after_cue w c ≡ w
      unfolding after_cue
      equal_adds_nothing q = rw (sym ee ∙ q)

      pub room_left : e ≡ false → w.table.count < cue_limit
      room_left q = leb-false cue_limit w.table.count (rw q at (passed_cue _ _ _ (sym h)).no20)

    pub new_is_put : e ≡ false → {u : List Cue} → u ≡ insert c (held w) ++ drop (w.table.count + 1) w.table.cues → after_cue w c ≡ with_table w u (w.table.count + 1)
    unfolding after_cue
    new_is_put q eu = rw (sym ee ∙ q, eu)
