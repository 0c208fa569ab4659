-- Lines of a text and their words.
use Prim.Native.Nat.{ℕ, zero, suc, ◌+◌, ◌-◌, ◌<◌, ◌≤◌, min}
use mathlib.Core.Path.{◌≡◌, refl, ap, sym, ◌∙◌}
use mathlib.Core.Bool.{Bool, true, false, not, cond}
use mathlib.Core.List.{List, [], ◌∷◌, ◌++◌}
use native.Mathlib.Omega.{arith}
use native.Mathlib.Numerals.{add-one}
use lib.ListN.{length, get_or, take, drop, length-take, length-drop, drop_of_length-le}
use lib.Dec.{ltb}
use Rattle.std.specs.Prelude.{Some, None}
use Rattle.std.specs.List.{position, position_or_len}
use Rattle.std.proofs.lemmas.List.Recursion.{is_position_or_len}
use lib.Seq.{drop-cons, drop-length, drop-drop, take-length, length-take-le}
use borrow.Author.Tests.{ltb-true, lt-ltb, eq-eqb, ne_eqb}
use Rattle.layout.specs.Choice.{pick, ◌and◌}
use Rattle.layout.specs.Lists.{first_index}
use Rattle.std.proofs.lemmas.Bool.{ltb-false}
use Rattle.layout.proofs.Cases.{by_cases}
use Rattle.script_words.specs.Texts.{ends_line, starts_comment, uncommented, whole_line, whole_lines, line_of, lines_after, onto, parted, lines_of, is_blank, is_letter, from_word}
use Rattle.script_words.specs.Texts.{first_word, after_word, word_from, words_from, word_count}

-- ---- The first byte that passes a test

module _ (p : ℕ → Bool) where
  first_is : (s : List ℕ) → first_index p s ≡ position_or_len p s
  unfolding first_index
  first_is = is_position_or_len (first_index p) p refl step
    where
      step : (x : ℕ) (xs : List ℕ) → first_index p (x ∷ xs) ≡ cond (p x) 0 (1 + first_index p xs)
      step x xs = by_cases (p x) (λ t. rw t) (λ t. rw t (omega arith))

  first-few : (s : List ℕ) → first_index p s ≤ length s
  unfolding first_index
  first-few [] = omega arith
  first-few (x ∷ xs) = by_cases (p x) (λ t. rw t (omega arith)) (λ t. rw t (omega (arith, first-few xs)))

  at_first : (b : Bool) (m l : ℕ) {n : ℕ} → ltb m l ≡ b → Some n ≡ cond b (Some m) None → (m ≡ n) × (m < l)
  at_first true m l t e = (cc, ltb-true m l t)
  at_first false m l t e = absurd (cc)

  past_all : (b : Bool) (m l : ℕ) → m ≤ l → ltb m l ≡ b → None ≡ cond b (Some m) None → m ≡ l
  past_all true m l h t e = absurd (cc)
  past_all false m l h t e = omega (arith, ltb-false m l t)

  module _ (s : List ℕ) where
    -- A place is answered where it is the first, none where there is none.
    pub is_first : {n : ℕ} → Some n ≡ position p s → (first_index p s ≡ n) × (n < length s)
    is_first {n} e =
        let f : Some n ≡ cond (ltb (first_index p s) (length s)) (Some (first_index p s)) None = rw (first_is s) e in
        let g = at_first (ltb (first_index p s) (length s)) (first_index p s) (length s) refl f in
        (g.0, omega arith)

    pub no_first : None ≡ position p s → first_index p s ≡ length s
    no_first e =
        let f : None ≡ cond (ltb (first_index p s) (length s)) (Some (first_index p s)) None = rw (first_is s) e in
        past_all (ltb (first_index p s) (length s)) (first_index p s) (length s) (first-few s) refl f

-- ---- Lines

-- A line up to its first comment.
module _ (l : List ℕ) where
  pub comment_at : {n : ℕ} → Some n ≡ position starts_comment l → take n l ≡ uncommented l
  unfolding uncommented
  comment_at e = rw (is_first starts_comment l e).0

  pub no_comment : None ≡ position starts_comment l → l ≡ uncommented l
  unfolding uncommented
  no_comment e = rw (no_first starts_comment l e, take-length)

pub parted-none : parted [] ≡ []
unfolding parted
parted-none = refl

pub lines_none : lines_of [] ≡ []
unfolding lines_of parted
lines_none = refl

onto-append : (b : ℕ) (ls ms : List (List ℕ)) → 0 < length ls → onto b (ls ++ ms) ≡ onto b ls ++ ms
unfolding onto
onto-append b [] ms h = absurd (omega arith)
onto-append b (l ∷ ls) ms h = refl

-- A text is its first line and the lines of the rest.
pub parted-next : (s : List ℕ) → 0 < length s → parted s ≡ whole_line s ∷ parted (lines_after s)
unfolding parted lines_after onto first_index
parted-next [] h = absurd (omega arith)
parted-next (b ∷ []) h = by_cases (ends_line b) (λ t. rw t) (λ t. rw t)
parted-next (b ∷ c ∷ cs) h =
    by_cases (ends_line b)
    (λ t. rw t)
    (λ t. rw (t, parted-next (c ∷ cs) (omega arith)))

parted-some : (s : List ℕ) → 0 < length s → 0 < length (parted s)
parted-some s h = rw (parted-next s h) (omega arith)

onto-few : (b : ℕ) (ls : List (List ℕ)) (n : ℕ) → length ls ≤ n → length (onto b ls) ≤ suc n
unfolding onto
onto-few b [] n h = omega arith
onto-few b (l ∷ ls) n h = omega arith

-- A line has a byte at least: its own, or its end.
pub parted-few : (s : List ℕ) → length (parted s) ≤ length s
unfolding parted
parted-few [] = omega arith
parted-few (b ∷ bs) =
    by_cases (ends_line b) (λ t. rw t (omega (arith, parted-few bs))) (λ t. rw t (onto-few b (parted bs) (length bs) (parted-few bs)))

whole-few : (s : List ℕ) → whole_lines s ≤ length s
unfolding whole_lines
whole-few [] = omega arith
whole-few (b ∷ bs) =
    by_cases (ltb 0 (whole_lines bs)) (λ t. rw t (omega (arith, whole-few bs)))
    (λ t. rw t (by_cases (ends_line b) (λ e. rw e (omega arith)) (λ e. rw e (omega arith))))

-- A text's whole lines, and what is left of it with more behind it.
pub parted-whole : (s t : List ℕ) → parted (s ++ t) ≡ parted (take (whole_lines s) s) ++ parted (drop (whole_lines s) s ++ t)
unfolding parted whole_lines
parted-whole [] t = refl
parted-whole (b ∷ bs) t =
    let m = whole_lines bs in
    by_cases (ltb 0 m)
    (λ g.
    let some : 0 < length (parted (take m bs)) = parted-some (take m bs) (omega (arith, ltb-true 0 m g, length-take-le m bs (whole-few bs))) in
    rw (g, parted-whole bs t)
    (by_cases (ends_line b) (λ e. rw e) (λ e. rw e (onto-append b (parted (take m bs)) (parted (drop m bs ++ t)) some))))
    (λ g. rw g (by_cases (ends_line b) (λ e. rw e (rw e)) (λ e. rw e (rw e))))

-- ---- The last end of a line

no_end : (s : List ℕ) → ((k : ℕ) → k < length s → get_or s k 0 ≡ 10 → ⊥) → 0 ≡ whole_lines s
unfolding whole_lines
no_end [] h = refl
no_end (b ∷ bs) h = rw (← no_end bs (λ k l. h (suc k) (omega arith)), ne_eqb b 10 (h 0 (omega arith)))

-- The last end of a line ends the whole lines.
pub ending_none : (s : List ℕ) → ((k : ℕ) → k < length s → get_or s k 0 ≡ 10 → ⊥) → (0 ≡ whole_lines s) × (0 ≤ length s)
ending_none s h = (no_end s h, omega arith)

last_at : (s : List ℕ) (i : ℕ) → i < length s → get_or s i 0 ≡ 10 → ((k : ℕ) → i < k → k < length s → get_or s k 0 ≡ 10 → ⊥) → i + 1 ≡ whole_lines s
unfolding whole_lines
last_at [] i l e h = absurd (omega arith)
last_at (b ∷ bs) zero l e h = rw (← no_end bs (λ k l. h (suc k) (omega arith) (omega arith)), eq-eqb b 10 e)
last_at (b ∷ bs) (suc i) l e h =
    let r = last_at bs i (omega arith) e (λ k m n. h (suc k) (omega arith) (omega arith)) in
    rw (← r, lt-ltb 0 (i + 1) (omega arith)) (omega arith)

pub ending_at : (s : List ℕ) (i : ℕ) → i < length s → get_or s i 0 ≡ 10 → ((k : ℕ) → i < k → k < length s → get_or s k 0 ≡ 10 → ⊥) → (i + 1 ≡ whole_lines s) × (i + 1 ≤ length s)
ending_at s i l e h = (last_at s i l e h, omega arith)

pub lines_next : (s : List ℕ) → (0 < length s) → lines_of s ≡ line_of s ∷ lines_of (lines_after s)
unfolding lines_of line_of
lines_next s h = rw (parted-next s h)

-- What a slice from a place on has.
pub rest_from : (s : List ℕ) (n : ℕ) → take (length s - n) (drop n s) ≡ drop n s
rest_from s n = rw (← length-drop n s, take-length)

-- From the end on there is no line.
drop_min : (s : List ℕ) (at : ℕ) → drop (min at (length s)) s ≡ drop at s
drop_min s at =
    by_cases (ltb at (length s))
    (λ t. let h = ltb-true at (length s) t in let e : min at (length s) ≡ at = omega arith in rw e)
    (λ t. let h = ltb-false at (length s) t in let e : min at (length s) ≡ length s = omega arith in
    rw (e, drop-length, drop_of_length-le s {i = at} h))

-- A line from here on, where the place is the end at most.
module _ (s : List ℕ) (at : ℕ) {m : ℕ} (h : m ≡ min at (length s)) where
  here : take (length s - m) (drop m s) ≡ drop at s
  here = rest_from s m ∙ rw h (drop_min s at)

  pub line-some : {n : ℕ} → Some n ≡ position ends_line (take (length s - m) (drop m s)) → take n (take (length s - m) (drop m s)) ≡ whole_line (drop at s)
  line-some {n} e = ap (λ l. take n l) here ∙ rw (is_first ends_line (drop at s) (e ∙ ap (position ends_line) here)).0

  pub line-none : None ≡ position ends_line (take (length s - m) (drop m s)) → take (length s - m) (drop m s) ≡ whole_line (drop at s)
  line-none e = here ∙ rw (no_first ends_line (drop at s) (e ∙ ap (position ends_line) here), take-length)

pub next-none : (s : List ℕ) (at : ℕ) → length s ≤ at → drop (length s) s ≡ lines_after (drop at s)
unfolding lines_after first_index
next-none s at h = rw (drop_of_length-le s {i = at} h, drop-length)

-- Where the line after it starts.
module _ (s : List ℕ) (at : ℕ) where
  pub next-some : {n : ℕ} → Some n ≡ position ends_line (drop at s) → drop (at + n + 1) s ≡ lines_after (drop at s)
  unfolding lines_after
  next-some {n} e =
      let f : at + n + 1 ≡ at + suc n = omega arith in
      rw (is_first ends_line (drop at s) e).0 (rw f (sym (drop-drop (suc n) at s)))

  pub next_last : None ≡ position ends_line (drop at s) → drop (length s) s ≡ lines_after (drop at s)
  unfolding lines_after
  next_last e =
      rw (no_first ends_line (drop at s) e, drop-length)
      (sym (drop_of_length-le (drop at s) {i = suc (length (drop at s))} (omega arith)))

-- ---- Words

-- The words that start in the first i bytes of a line.
pub record Counting (line : List ℕ) (count : ℕ) (apart : Bool) (i : ℕ) : Type 0 where
  pub few : i ≤ length line
  pub small : count ≤ i
  pub is : word_count line ≡ count + words_from apart (drop i line)

pub count_none : (line : List ℕ) → Counting line 0 true 0
unfolding word_count
count_none line = record { few = omega arith; small = omega arith; is = omega arith }

module _ {line : List ℕ} {n i : ℕ} {apart : Bool} (r : Counting line n apart i) where
  pub count-more : {m : ℕ} {blank : Bool} → i < length line → blank ≡ is_blank (get_or line i 0) → m ≡ pick (not blank and apart) (n + 1) n → Counting line m blank (i + 1)
  unfolding words_from
  count-more {m} {blank} h e f =
      rw (f, e)
      (by_cases (is_letter (get_or line i 0) and apart)
      (λ t. rw t record { few = omega arith; small = omega (arith, r.small); is = r.is ∙ rw (drop-cons line i 0, t, add-one i) (omega arith) })
      (λ t. rw t record { few = omega arith; small = omega (arith, r.small); is = r.is ∙ rw (drop-cons line i 0, t, add-one i) }))

  pub count-all : length line ≤ i → n ≡ word_count line
  unfolding words_from
  count-all h = sym (r.is ∙ rw (drop_of_length-le line {i = i} h) (omega arith))

-- A line from its first letter on, and up to and from its first blank.
module _ (l : List ℕ) where
  pub word_at : {n : ℕ} → Some n ≡ position is_letter l → drop n l ≡ from_word l
  unfolding from_word
  word_at e = rw (is_first is_letter l e).0

  pub no_letter : None ≡ position is_letter l → [] ≡ from_word l
  unfolding from_word
  no_letter e = rw (no_first is_letter l e, drop-length)

  module _ {r : List ℕ} (f : r ≡ from_word l) where
    pub word_before : {n : ℕ} → Some n ≡ position is_blank r → take n r ≡ first_word l
    unfolding first_word
    word_before e = rw (← f, (is_first is_blank r e).0)

    pub word_whole : None ≡ position is_blank r → r ≡ first_word l
    unfolding first_word
    word_whole e = rw (← f, no_first is_blank r e, take-length)

    pub word_after : {n : ℕ} → Some n ≡ position is_blank r → drop n r ≡ after_word l
    unfolding after_word
    word_after e = rw (← f, (is_first is_blank r e).0)

    pub word_last : None ≡ position is_blank r → [] ≡ after_word l
    unfolding after_word
    word_last e = rw (← f, no_first is_blank r e, drop-length)

-- A word of a line is one of what follows after k words.
pub record Passing (line : List ℕ) (i : ℕ) (rest : List ℕ) (k : ℕ) : Type 0 where
  pub is : word_from line i ≡ word_from rest (i - k)

pub pass_none : (line : List ℕ) (i : ℕ) → Passing line i line 0
pass_none line i = let e : i - 0 ≡ i = omega arith in record { is = rw e }

word_none : (i : ℕ) → word_from [] i ≡ []
unfolding word_from first_word after_word from_word first_index
word_none zero = refl
word_none (suc i) = word_none i

none_left : (rest : List ℕ) (i : ℕ) → length rest ≡ 0 → rest ≡ word_from rest i
none_left [] i e = sym (word_none i)
none_left (b ∷ bs) i e = absurd (omega arith)

module _ {line : List ℕ} {i k : ℕ} {rest : List ℕ} (r : Passing line i rest k) where
  pub pass_end : length rest ≡ 0 → rest ≡ word_from line i
  pass_end e = none_left rest (i - k) e ∙ sym r.is

  pub pass_more : {after : List ℕ} → after ≡ after_word rest → k < i → Passing line i after (k + 1)
  unfolding word_from
  pass_more {after} f h =
      let e : i - k ≡ suc (i - (k + 1)) = omega arith in
      record { is = r.is ∙ rw (e, f) }

  pub pass_all : {first : List ℕ} → first ≡ first_word rest → i ≤ k → first ≡ word_from line i
  unfolding word_from
  pass_all {first} f h = let e : i - k ≡ 0 = omega arith in f ∙ sym (r.is ∙ rw e)

-- A word is no longer than its line.
pub word_short : (l : List ℕ) (i : ℕ) → length (word_from l i) ≤ length l
unfolding word_from first_word after_word from_word
word_short l zero = simp (length-take, length-drop) (omega arith)
word_short l (suc i) =
    let h = word_short (after_word l) i in
    let n : length (after_word l) ≤ length l = simp length-drop (omega arith) in
    omega arith
