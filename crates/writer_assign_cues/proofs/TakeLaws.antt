-- Loops over a part of the cue table: how many start below a limit, how many are points and ranges, whether a Loop is among them.
use Prim.Native.Nat.{ℕ, zero, suc, ◌+◌, ◌-◌, ◌<◌, ◌≤◌, min}
use mathlib.Core.Path.{◌≡◌, refl, ap, sym, ◌∙◌}
use mathlib.Core.Bool.{Bool, true, false}
use mathlib.Core.List.{List, [], ◌∷◌}
use native.Mathlib.Omega.{arith}
use native.Mathlib.Nat.{zero-add, suc-add, add-zero}
use native.Mathlib.Numerals.{add-one}
use borrow.Author.Tests.{lt-ltb, le-ltb, leb-true, leb-false}
use lib.Dec.{ltb, leb}
use Rattle.std.specs.Prelude.{not, count_by}
use Rattle.std.specs.List.{list_any}
use Rattle.std.proofs.lemmas.List.Recursion.{is_count_by}
use Rattle.std.proofs.lemmas.List.{drop-take}
use lib.ListN.{length, get_or, take, drop, drop_of_length-le}
use lib.Seq.{slice, slice-cons, slice_empty, length-slice, length-take-le, take-take, take-nil, take_all}
use Rattle.layout.specs.Lists.{any, filter}
use Rattle.layout.proofs.Cases.{by_cases}
use Rattle.writer.specs.Loading.{loops, points, any_loop}
use Rattle.writer.specs.Push.{below, count_taken, cues_taken}
use Rattle.writer_assign_cues.specs.Taking.{tallied, Taking}
use Rattle.writer.proofs.CueLaws.{points-few}
use Rattle.writer.specs.declared.Cue.{Cue}
use Rattle.writer_assign_cues.specs.declared.Taken.{Taken}
use Rattle.layout.specs.Refusals.{cue_limit}

-- ---- A part of a table of 128 cues, from its first cue on

module _ (t : List Cue) (to k : ℕ) (len : length t ≡ cue_limit) (most : to ≤ cue_limit) where
  pub unrolled : (z : Cue) → k < to → slice k to t ≡ get_or t k z ∷ slice (k + 1) to t
  unrolled z lt = let h : to ≤ length t = omega arith in slice-cons k to t z lt h ∙ rw add-one

  pub none_left : to ≤ k → slice k to t ≡ []
  none_left ge =
      let h : to ≤ length t = omega arith in
      drop_of_length-le (take to t) {i = k} (rw length-take-le (omega arith))

-- ---- Below a limit

-- the cues from a place up to k start below the limit
pub record Below (t : List Cue) (from to lim k : ℕ) : Type 0 where
  pub above : from ≤ k
  pub within : k ≤ to
  pub rest : from + below lim (slice from to t) ≡ k + below lim (slice k to t)

module _ (t : List Cue) (from to lim k : ℕ) (len : length t ≡ cue_limit) (most : to ≤ cue_limit) (inv : Below t from to lim k) where
  pub below_again : (z : Cue) → k < to → (get_or t k z).start < lim → Below t from to lim (k + 1)
  unfolding below
  below_again z lt h =
      let u : below lim (slice k to t) ≡ suc (below lim (slice (k + 1) to t)) = rw (unrolled t to k len most z lt, lt-ltb _ _ h) in
      record { above = omega (arith, inv.above); within = omega arith; rest = inv.rest ∙ omega arith }

  pub below-stop : (z : Cue) → k < to → lim ≤ (get_or t k z).start → k ≡ from + below lim (slice from to t)
  unfolding below
  below-stop z lt h =
      let u : below lim (slice k to t) ≡ 0 = rw (unrolled t to k len most z lt, le-ltb _ _ h) in
      omega (arith, inv.rest)

  pub below_end : to ≤ k → k ≡ from + below lim (slice from to t)
  unfolding below
  below_end ge =
      let u : below lim (slice k to t) ≡ 0 = rw (none_left t to k len most ge) in
      omega (arith, inv.rest)

pub below-start : (t : List Cue) (from to lim : ℕ) → from ≤ to → Below t from to lim from
below-start t from to lim h = record { above = omega arith; within = h; rest = refl }

-- ---- Counting

pub points_are : (cs : List Cue) → count_by (λ (c : Cue). not (loops c.kind)) cs ≡ points cs
unfolding points filter
points_are cs =
    sym (is_count_by points (λ (c : Cue). not (loops c.kind)) refl (λ d ds. by_cases (loops d.kind) (λ q. rw q) (λ q. rw q (omega arith))) cs)

-- a part of the table, as the code takes it
pub part_is : (t : List Cue) (from to : ℕ) → from ≤ to → take (to - from) (drop from t) ≡ slice from to t
part_is t from to h =
    let e : from + (to - from) ≡ to = omega arith in
    sym (drop-take from (to - from) t) ∙ ap (λ (m : ℕ). drop from (take m t)) e

pub loop_is : (cs : List Cue) → list_any (λ (c : Cue). loops c.kind) cs ≡ any_loop cs
unfolding any
loop_is cs = refl

-- ---- The cues that a block takes

-- a part of a part that starts with it
first_part : {A : Type 0} (k a n : ℕ) (t : List A) → a + k ≤ n → take k (slice a n t) ≡ slice a (a + k) t
first_part k a n t h = swap k a (take n t) ∙ ap (drop a) (take-take (a + k) n t h)
  where
    swap : {A : Type 0} (k a : ℕ) (l : List A) → take k (drop a l) ≡ drop a (take (a + k) l)
    swap k zero l = rw zero-add
    swap k (suc a) [] = rw (take-nil k, take-nil (suc a + k))
    swap k (suc a) (x ∷ xs) = rw (suc-add a k) (swap k a xs)

below-few : (lim : ℕ) (cs : List Cue) → below lim cs ≤ length cs
unfolding below
below-few lim [] = omega arith
below-few lim (c ∷ cs) = by_cases (ltb c.start lim) (λ q. rw q (omega (arith, below-few lim cs))) (λ q. rw q (omega arith))

module _ (t : List Cue) (from count end : ℕ) (last : Bool) (placed : from ≤ count) where
  taken_are : (r : Taken) (to k : ℕ) → count_taken t from count end last ≡ k → to ≡ from + k → to ≤ count → r ≡ tallied to (slice from to t)
      → r ≡ tallied (from + count_taken t from count end last) (cues_taken t from count end last)
  unfolding cues_taken
  taken_are r to k ek et le e =
      let p : to ≡ from + count_taken t from count end last = et ∙ ap (λ (m : ℕ). from + m) (sym ek) in
      let q : slice from to t ≡ cues_taken t from count end last =
      ap (λ (m : ℕ). slice from m t) et
      ∙ sym (first_part k from count t (omega arith))
      ∙ ap (λ (m : ℕ). take m (slice from count t)) (sym ek) in
      e ∙ (λ i. tallied (p i) (q i))

  pub none_taken : from ≡ count → record { to = from; points = 0; asked = false } ≡ tallied (from + count_taken t from count end last) (cues_taken t from count end last)
  unfolding tallied count_taken below points filter any
  none_taken e =
      let z : below end (slice from count t) ≡ 0 = rw (← e, slice_empty) in
      let k : count_taken t from count end last ≡ 0 = by_cases last (λ q. rw (q, ← e, slice_empty)) (λ q. rw q z) in
      taken_are _ from 0 k (omega arith) (omega arith) (rw slice_empty)

  module _ (r : Taken) where
    pub all_taken : last ≡ true → count ≤ length t → r ≡ tallied count (slice from count t)
        → r ≡ tallied (from + count_taken t from count end last) (cues_taken t from count end last)
    unfolding count_taken
    all_taken l within e = taken_are r count (count - from) (rw l (length-slice from count t within)) (omega arith) (omega arith) e

    pub some_taken : (to : ℕ) → last ≡ false → to ≡ from + below end (slice from count t) → to ≤ count
        → r ≡ tallied to (slice from to t) → r ≡ tallied (from + count_taken t from count end last) (cues_taken t from count end last)
    unfolding count_taken
    some_taken to l b le e = taken_are r to _ (rw l) b le e

  -- What a block takes is a part of the table.
  module _ (within : count ≤ length t) where
    takes-few : from + count_taken t from count end last ≤ count
    unfolding count_taken
    takes-few =
        let b = below-few end (slice from count t) in
        let n = length-slice from count t within in
        by_cases last (λ q. rw q (omega arith)) (λ q. rw q (omega arith))

    pub taken_slice : cues_taken t from count end last ≡ slice from (from + count_taken t from count end last) t
    unfolding cues_taken
    taken_slice = first_part (count_taken t from count end last) from count t takes-few

    pub taken_count : length (cues_taken t from count end last) ≡ count_taken t from count end last
    taken_count =
        ap length taken_slice ∙ length-slice from (from + count_taken t from count end last) t (omega (arith, takes-few)) ∙ omega arith

    module _ (r : Taken) (is : r ≡ tallied (from + count_taken t from count end last) (cues_taken t from count end last)) where
      ends : r.to ≡ from + count_taken t from count end last
      unfolding tallied
      ends = ap (λ (x : Taken). x.to) is

      pub taken_within : r.to ≤ count
      taken_within = omega (arith, takes-few, ends)

      pub taking : Taking t from r.to r.points
      unfolding tallied
      taking =
          record {
            above = omega (arith, ends);
            counted = ap (λ (x : Taken). x.points) is ∙ ap points (taken_slice ∙ ap (λ (m : ℕ). slice from m t) (sym ends));
          }

      pub taken_few : r.points ≤ r.to
      taken_few =
          let n = length-slice from r.to t (omega (arith, taken_within)) in
          omega (arith, taking.counted, points-few (slice from r.to t))

-- ---- Any places: there are no cues beyond the table

module _ (t : List Cue) (n m : ℕ) (len : length t ≡ cue_limit) (least : m ≡ min n cue_limit) where
  clamp : take n t ≡ take m t
  clamp =
      by_cases (leb n cue_limit)
      (λ q. let h = leb-true n cue_limit q in let e : n ≡ m = omega arith in ap (λ (k : ℕ). take k t) e)
      (λ q. let h = leb-false n cue_limit q in take_all n t (omega arith) ∙ sym (take_all m t (omega arith)))

  pub same-part : (from : ℕ) → slice from m t ≡ slice from n t
  same-part from = ap (drop from) (sym clamp)

  pub same_taken : (from end : ℕ) (last : Bool) {r : Taken} → r ≡ tallied (from + count_taken t from m end last) (cues_taken t from m end last)
      → r ≡ tallied (from + count_taken t from n end last) (cues_taken t from n end last)
  unfolding count_taken cues_taken
  same_taken from end last e = rw (← same-part from) e

  pub no_cue-left : (from end : ℕ) (last : Bool) → m ≤ from
      → record { to = from; points = 0; asked = false } ≡ tallied (from + count_taken t from n end last) (cues_taken t from n end last)
  unfolding tallied count_taken cues_taken below points filter any
  no_cue-left from end last h =
      let e : slice from n t ≡ [] = sym (same-part from) ∙ none_left t m from len (omega arith) h in
      by_cases last (λ q. rw (q, e, add-zero from)) (λ q. rw (q, e, add-zero from))

-- what is counted of a part of the table
pub tally_few : (t : List Cue) (from m : ℕ) → length t ≡ cue_limit → m ≤ cue_limit → from ≤ m → {r : Taken} → r ≡ tallied m (slice from m t)
    → (r.points ≡ points (slice from m t)) × (r.points ≤ cue_limit)
unfolding tallied
tally_few t from m len most le e =
    let k = ap (λ (x : Taken). x.points) e in
    (k, omega (arith, k, points-few (slice from m t), length-slice from m t (omega arith)))
