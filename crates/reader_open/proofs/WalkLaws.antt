-- The walk's loop: its invariant, and what each way out of it answers.
use Rattle.std.proofs.Common.{max, Bool, true, false, not, Option, Some, None, is_some, take, cond, position, Result, Ok, Err, is_err}
use Rattle.std.specs.List.{position_or_len}
use Rattle.std.proofs.lemmas.List.Sums.{position_or_len_is, prefix_len-le-length}
use Rattle.std.proofs.lemmas.List.Recursion.{is_position_or_len}
use lib.Dec.{ltb, eqb}
use Rattle.layout.specs.Choice.{pick}
use Rattle.layout.proofs.Cases.{by_cases}
use Rattle.layout.specs.Answers.{says}
use Rattle.layout.specs.declared.refusal.Refusal.{Refusal}
use Prim.Native.Nat.{ℕ, zero, suc, ◌+◌, ◌-◌, ◌≤◌, ◌<◌}
use mathlib.Core.Path.{◌≡◌, refl, sym, ap, ◌∙◌}
use mathlib.Core.List.{List, [], ◌∷◌, ◌++◌}
use native.Mathlib.Omega.{arith}
use borrow.Author.Tests.{ne_eqb, le-ltb, ltb-true, ltb-false}
use native.Mathlib.Numerals.{add-one}
use lib.ListN.{length, get_or, set, drop, replicate, length-append, length-drop, length-take, get_or-append}
use lib.Seq.{take-append_seam, get_or-take, set_at, append_snoc, drop-cons, get_or-set_same, get_or-set_other}
use borrow.Author.Count.{below_more}
use Rattle.layout.specs.Lists.{first_index}
use Rattle.layout.specs.Records.{Read, read_header, file_header_size}
use Rattle.layout.specs.declared.BlockHeader.{BlockHeader}
use Rattle.reader_open.specs.declared.walk.Walk.{Walk}
use Rattle.reader.specs.OpeningAndReading.{first_at, Walked, walk_from}
use Rattle.reader_open.specs.WalkAnswers.{walk_of, walked_over}
use Rattle.reader.proofs.OpeningLaws.{step_end, step_loop, step-on}

-- ---- The search among the offsets already walked

-- one above all of them is none of them
pub none_at : (x above : ℕ) (xs : List ℕ) → ((k : ℕ) → k < length xs → get_or xs k 0 ≤ above) → above < x → position (λ o. eqb o x) xs ≡ None
none_at x above xs f h =
    let e : position_or_len (λ o. eqb o x) xs ≡ length xs =
    position_or_len_is (λ o. eqb o x) xs (length xs) 0 (omega arith) (λ k l. ne_eqb (get_or xs k 0) x (λ q. omega (arith, f k l))) (λ z. absurd (omega arith)) in
    rw e (rw (le-ltb (length xs) (length xs) (omega arith)))

-- the definition's search is std's
first_is : (x : ℕ) (xs : List ℕ) → first_at x xs ≡ position_or_len (λ o. eqb o x) xs
unfolding first_index
first_is x xs = is_position_or_len (first_index (λ o. eqb o x)) (λ o. eqb o x) refl (λ y ys. one y ys (eqb y x)) xs
  where
    one : (y : ℕ) (ys : List ℕ) (b : Bool) → pick b 0 (suc (first_index (λ o. eqb o x) ys)) ≡ cond b 0 (1 + first_index (λ o. eqb o x) ys)
    one y ys true = refl
    one y ys false = omega arith

-- where it finds one, and where none
module _ (x : ℕ) (xs : List ℕ) where
  pub found : (i : ℕ) → position (λ o. eqb o x) xs ≡ Some i → (first_at x xs ≡ i) × (i < length xs)
  found i e =
      by_cases (ltb (position_or_len (λ o. eqb o x) xs) (length xs))
      (λ t.
      let q : Some (position_or_len (λ o. eqb o x) xs) ≡ Some i = rw t at e in
      let p : position_or_len (λ o. eqb o x) xs ≡ i = cc in
      (first_is x xs ∙ p, let l = ltb-true (position_or_len (λ o. eqb o x) xs) (length xs) t in omega arith))
      (λ t. let q : None ≡ Some i = rw t at e in absurd cc)

  pub missing : position (λ o. eqb o x) xs ≡ None → first_at x xs ≡ length xs
  missing e =
      by_cases (ltb (position_or_len (λ o. eqb o x) xs) (length xs))
      (λ t. let q : Some (position_or_len (λ o. eqb o x) xs) ≡ None = rw t at e in absurd cc)
      (λ t.
      let l = ltb-false (position_or_len (λ o. eqb o x) xs) (length xs) t in
      let m = prefix_len-le-length (λ o. not (eqb o x)) xs in
      first_is x xs ∙ omega arith)

-- ---- Lent places

-- the first of the places put, the others as they were
abbrev pub over : (seen places : List ℕ) → List ℕ
over xs ps = xs ++ drop (length xs) ps

over_long : (xs ps : List ℕ) → length xs ≤ length ps → length (over xs ps) ≡ length ps
over_long xs ps h = omega (arith, length-append xs (drop (length xs) ps), length-drop (length xs) ps)

-- the store of one more
stored : (xs ps : List ℕ) (n x : ℕ) → length xs ≡ n → n < length ps → set (over xs ps) n x ≡ over (xs ++ (x ∷ [])) ps
stored xs ps n x l h =
    let m : length (xs ++ (x ∷ [])) ≡ suc n = length-append xs (x ∷ []) ∙ ap (λ (k : ℕ). k + 1) l ∙ add-one n in
    rw (m, l, drop-cons ps n 0 h) (set_at xs (get_or ps n 0) (drop (suc n) ps) x n l ∙ sym (append_snoc xs x (drop (suc n) ps)))

-- one that was put
over_at : (xs ps : List ℕ) (k : ℕ) → k < length xs → get_or (over xs ps) k 0 ≡ get_or xs k 0
over_at xs ps k h = get_or-append xs (drop (length xs) ps) 0 k h

-- ---- The loop

-- the offsets walked over the places lent, and what is still to be walked comes to the whole
pub record Walking (s places offsets : List ℕ) (count current : ℕ) : Type 0 where
  pub seen : List ℕ
  pub long : length seen ≡ count
  pub few : count ≤ length places
  pub is : offsets ≡ over seen places
  pub same : walk_from (length places) s [] file_header_size ≡ walk_from (length places - count) s seen current

-- What a walk is to come to: its answer, and what it leaves of the places.
pub record Walks (s places : List ℕ) (w : Walk) (offsets : List ℕ) : Type 0 where
  pub answer : Read.value w ≡ walk_of (walk_from (length places) s [] file_header_size)
  pub left : offsets ≡ walked_over places (walk_from (length places) s [] file_header_size)

module _ {s ps offsets : List ℕ} {i current : ℕ} (w : Walking s ps offsets i current) where
  pub wide : length offsets ≡ length ps
  wide = ap length w.is ∙ over_long w.seen ps (omega (arith, w.long, w.few))

  -- no place is left
  pub at-full : length ps ≤ i → Read.refused 5 ≡ walk_of (walk_from (length ps) s [] file_header_size)
  unfolding walk_from
  at-full h =
      let e : length ps - i ≡ zero = omega (arith, wide) in
      rw (w.same, e)

  module _ (room : i < length ps) where
    more : walk_from (length ps) s [] file_header_size ≡ walk_from (suc (length ps - (i + 1))) s w.seen current
    more =
        let e : length ps - i ≡ suc (length ps - (i + 1)) = omega (arith, room) in
        w.same ∙ ap (λ (n : ℕ). walk_from n s w.seen current) e

    -- no offset walked is above the highest of them, one more included
    pub all_below : {above above1 : ℕ} → ((k : ℕ) → k < i → get_or offsets k 0 ≤ above) → above1 ≡ max current above
        → (k : ℕ) → k < i + 1 → get_or (set offsets i current) k 0 ≤ above1
    all_below {above} {above1} f e =
        let h : i < length offsets = omega (arith, wide) in
        below_more (λ (k : ℕ). get_or (set offsets i current) k 0 ≤ above1) i (λ k l. rw (get_or-set_other offsets i k current 0 (λ q. omega arith)) (omega (arith, f k l)))
        (rw (get_or-set_same offsets i current 0 h) (omega arith))

    pub searched_below : {above above1 : ℕ} → ((k : ℕ) → k < i → get_or offsets k 0 ≤ above) → above1 ≡ max current above
        → (k : ℕ) → k < length (take (i + 1) (set offsets i current)) → get_or (take (i + 1) (set offsets i current)) k 0 ≤ above1
    searched_below f e k l =
        let m : k < i + 1 = omega (arith, length-take (i + 1) (set offsets i current)) in
        rw (get_or-take (i + 1) (set offsets i current) k 0 m) (all_below f e k m)

    -- a refused header
    pub at_refused : (n : ℕ) → Read.refused n ≡ read_header s current → Read.refused n ≡ walk_of (walk_from (length ps) s [] file_header_size)
    unfolding walk_from
    at_refused n e = rw (more, ← e)

    abbrev seen1 : List ℕ
    seen1 = w.seen ++ (current ∷ [])

    long1 : length seen1 ≡ i + 1
    long1 = omega (arith, length-append w.seen (current ∷ []), w.long)

    is1 : set offsets i current ≡ over seen1 ps
    is1 = rw w.is (stored w.seen ps i current w.long room)

    -- what is searched
    pub searched : take (i + 1) (set offsets i current) ≡ seen1
    searched = rw (is1, ← long1) (take-append_seam seen1 (drop (length seen1) ps))

    made1 : (start : Option ℕ) → walk_from (length ps) s [] file_header_size ≡ Walked.walked seen1 start
        → Walks s ps (record { loop_start = start; count = i + 1 }) (set offsets i current)
    unfolding walked_over
    made1 start e = record { answer = rw (e, long1); left = rw e is1 }

    module _ {b : BlockHeader} (e : Read.value b ≡ read_header s current) where
      pub at_end : b.next_offset ≡ 4294967295 → Walks s ps (record { loop_start = None; count = i + 1 }) (set offsets i current)
      at_end q = made1 None (more ∙ step_end _ s w.seen current b (sym e) q)

      module _ (q : b.next_offset ≡ 4294967295 → ⊥) where
        pub at-loop : (o : Option ℕ) → o ≡ position (λ x. eqb x b.next_offset) (take (i + 1) (set offsets i current)) → is_some o ≡ true
            → Walks s ps (record { loop_start = o; count = i + 1 }) (set offsets i current)
        at-loop None f g = absurd cc
        at-loop (Some j) f g =
            let p = found b.next_offset seen1 j (rw searched at (sym f)) in
            made1 (Some j) (more ∙ step_loop _ s w.seen current b (sym e) q j p.0 p.1)

        pub at_next : (o : Option ℕ) → o ≡ position (λ x. eqb x b.next_offset) (take (i + 1) (set offsets i current)) → is_some o ≡ false
            → Walking s ps (set offsets i current) (i + 1) b.next_offset
        at_next (Some j) f g = absurd cc
        at_next None f g =
            let p = missing b.next_offset seen1 (rw searched at (sym f)) in
            record {
              seen = seen1;
              long = long1;
              few = omega (arith, room);
              is = is1;
              same = more ∙ step-on _ s w.seen current b (sym e) q p;
            }

-- a refused walk is to leave zeros
pub cleared : (ps here : List ℕ) {os : List ℕ} (q : Result Walk Refusal) → is_err q ≡ true → (x : Walked) → says q ≡ walk_of x → length here ≡ length ps → os ≡ replicate (length here) 0
    → os ≡ walked_over ps x
unfolding walked_over
cleared ps here (Ok w) t x e l f = absurd cc
cleared ps here (Err r) t (Walked.walked os start) e l f = absurd cc
cleared ps here (Err r) t (Walked.refused n) e l f = rw (← l) f
