-- A decimal read digit by digit.
use Prim.Native.Nat.{ℕ, suc, ◌+◌, ◌-◌, ◌*◌, ◌<◌, ◌≤◌}
use mathlib.Core.Path.{◌≡◌, refl, sym, ◌∙◌}
use mathlib.Core.Bool.{false}
use mathlib.Core.List.{List, [], ◌∷◌}
use native.Mathlib.Omega.{arith}
use native.Mathlib.Numerals.{add-one}
use lib.ListN.{length, get_or, take, drop}
use lib.Seq.{drop-cons, drop-length, take-length}
use lib.IntN.{pos}
use lib.Dec.{leb}
use borrow.Author.Tests.{le-leb, lt-leb, eq-eqb, ne_eqb}
use Rattle.std.specs.Prelude.{Option, Some, None}
use Rattle.std.specs.Option.{option_map}
use Rattle.std.specs.List.{list_all}
use Rattle.std.specs.Char.{is_ascii_digit}
use Rattle.layout.proofs.Cases.{by_cases}
use Rattle.script_words.specs.Numbers.{decimal_from, decimal_of, digits_alone, is_decimal, under, small_of}

-- The first i digits of a word make v.
pub record Reading (max : ℕ) (word : List ℕ) (v i : ℕ) : Type 0 where
  pub few : i ≤ length word
  pub small : v ≤ max
  pub is : decimal_of max word ≡ decimal_from max v (drop i word)

pub reading_none : (max : ℕ) (word : List ℕ) → (length word ≡ 0 → ⊥) → Reading max word 0 0
unfolding decimal_of
reading_none max [] h = absurd (h refl)
reading_none max (b ∷ bs) h = record { few = omega arith; small = omega arith; is = refl }

pub no_word : (max : ℕ) (word : List ℕ) → length word ≡ 0 → None ≡ decimal_of max word
unfolding decimal_of
no_word max [] h = refl
no_word max (b ∷ bs) h = absurd (omega arith)

module _ {max : ℕ} {word : List ℕ} {v i : ℕ} (r : Reading max word v i) (h : i < length word) where
  next : decimal_of max word ≡ decimal_from max v (get_or word i 0 ∷ drop (suc i) word)
  next = r.is ∙ rw (drop-cons word i 0)

  pub low : get_or word i 0 < 48 → None ≡ decimal_of max word
  unfolding decimal_from
  low t = sym (next ∙ rw (lt-leb 48 (get_or word i 0) t))

  pub high : 57 < get_or word i 0 → None ≡ decimal_of max word
  unfolding decimal_from
  high t = sym (next ∙ rw (le-leb 48 (get_or word i 0) (omega arith), lt-leb (get_or word i 0) 57 t))

  module _ (s : 48 ≤ get_or word i 0) (t : get_or word i 0 ≤ 57) where
    pub over : max < 10 * v + (get_or word i 0 - 48) → None ≡ decimal_of max word
    unfolding decimal_from
    over o = sym (next ∙ rw (le-leb 48 (get_or word i 0) s, le-leb (get_or word i 0) 57 t, lt-leb (10 * v + (get_or word i 0 - 48)) max o))

    pub more : 10 * v + (get_or word i 0 - 48) ≤ max → Reading max word (10 * v + (get_or word i 0 - 48)) (i + 1)
    unfolding decimal_from
    more o =
        record {
          few = omega arith;
          small = o;
          is = next ∙ rw (le-leb 48 (get_or word i 0) s, le-leb (get_or word i 0) 57 t, le-leb (10 * v + (get_or word i 0 - 48)) max o, add-one);
        }

pub all : {max : ℕ} {word : List ℕ} {v i : ℕ} → Reading max word v i → length word ≤ i → Some v ≡ decimal_of max word
unfolding decimal_from
all {word = word} {i = i} r h =
    let e : i ≡ length word = omega (arith, r.few) in
    sym (r.is ∙ rw (e, drop-length))

-- ---- Digits alone

digits_all : (word : List ℕ) → digits_alone word ≡ list_all is_ascii_digit word
unfolding digits_alone
digits_all [] = refl
digits_all (b ∷ bs) = rw (digits_all bs)
    (by_cases (leb 48 b) (λ s. rw s (by_cases (leb b 57) (λ t. rw t) (λ t. rw t))) (λ s. rw s))

-- A word with a letter says a decimal where all are digits.
pub decimal_some : (word : List ℕ) → (length word ≡ 0 → ⊥) → list_all is_ascii_digit word ≡ is_decimal word
unfolding is_decimal
decimal_some [] h = absurd (h refl)
decimal_some (b ∷ bs) h = sym (digits_all (b ∷ bs))

pub decimal_none : (word : List ℕ) → length word ≡ 0 → false ≡ is_decimal word
unfolding is_decimal
decimal_none [] h = refl
decimal_none (b ∷ bs) h = absurd (omega arith)

-- ---- Numbers with a sign

-- What a word says with a minus before it, and without.
pub minus_word : (word : List ℕ) {n : Option ℕ} → 0 < length word → get_or word 0 0 ≡ 45 → n ≡ decimal_of 32768 (take (length word - 1) (drop 1 word)) → small_of word ≡ option_map under n
unfolding small_of
minus_word [] h t e = absurd (omega arith)
minus_word (b ∷ bs) h t e =
    let l : length (b ∷ bs) - 1 ≡ length bs = omega arith in
    rw (eq-eqb b 45 t, e, l, take-length)

pub plain_word : (word : List ℕ) {n : Option ℕ} → (get_or word 0 0 ≡ 45 → ⊥) → n ≡ decimal_of 32767 word → small_of word ≡ option_map pos n
unfolding small_of decimal_of
plain_word [] t e = rw e
plain_word (b ∷ bs) t e = rw (ne_eqb b 45 t, e)

pub empty-start : (word : List ℕ) → length word ≤ 0 → get_or word 0 0 ≡ 45 → ⊥
empty-start [] h e = omega arith
empty-start (b ∷ bs) h e = omega arith
