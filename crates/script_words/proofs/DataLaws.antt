-- Data read two digits by two.
use Prim.Native.Nat.{ℕ, zero, suc, ◌+◌, ◌*◌, ◌/◌, ◌%◌, ◌<◌, ◌≤◌}
use mathlib.Core.Path.{◌≡◌, refl, sym, ◌∙◌}
use mathlib.Core.Bool.{Bool, true, false}
use mathlib.Core.List.{List, [], ◌∷◌}
use native.Mathlib.Omega.{arith}
use lib.ListN.{length, get_or}
use lib.Dec.{leb, eqb}
use borrow.Author.Rules.{rules}
use Rattle.std.specs.List.{list_all}
use Rattle.std.specs.Char.{is_ascii_hexdigit}
use Rattle.layout.proofs.Cases.{by_cases}
use borrow.Author.Tests.{le-leb, lt-leb}
use Rattle.layout.specs.Choice.{pick, ◌and◌}
use Rattle.script_words.specs.Data.{digit_of, bytes_said, is_digit, two_by_two, is_data}

pub data_length_lem : (s : List ℕ) → length (bytes_said s) ≡ length s / 2
unfolding bytes_said
data_length_lem [] = refl
data_length_lem (a ∷ []) = refl
data_length_lem (a ∷ b ∷ bs) = omega (arith, data_length_lem bs)

pub data_at_lem : (s : List ℕ) (j : ℕ) → j < length s / 2 → 16 * digit_of (get_or s (2 * j) 0) + digit_of (get_or s (2 * j + 1) 0) ≡ get_or (bytes_said s) j 0
unfolding bytes_said
data_at_lem [] j h = absurd (omega arith)
data_at_lem (a ∷ []) j h = absurd (omega arith)
data_at_lem (a ∷ b ∷ bs) zero h = refl
data_at_lem (a ∷ b ∷ bs) (suc j) h =
    let e : 2 * suc j ≡ suc (suc (2 * j)) = omega arith in
    let f : 2 * suc j + 1 ≡ suc (suc (2 * j + 1)) = omega arith in
    rw (f, e) (data_at_lem bs j (omega arith))

-- How many bytes a word puts into a slice of l bytes.
module _ (s : List ℕ) (at l : ℕ) where
  pub count-inside : at + length s / 2 ≤ l → length s / 2 ≡ pick (leb (at + length (bytes_said s)) l) (length (bytes_said s)) 0
  count-inside h = rw (data_length_lem s, le-leb (at + length s / 2) l h)

  pub count_outside : l < at + length s / 2 → 0 ≡ pick (leb (at + length (bytes_said s)) l) (length (bytes_said s)) 0
  count_outside h = rw (data_length_lem s, lt-leb (at + length s / 2) l h)

-- ---- Digits two by two

digit_is : (b : ℕ) → is_digit b ≡ is_ascii_hexdigit b
unfolding is_digit
digit_is b = search rules

pub pairs_all : (s : List ℕ) → length s % 2 ≡ 0 → list_all is_ascii_hexdigit s ≡ two_by_two s
unfolding two_by_two
pairs_all [] h = refl
pairs_all (a ∷ []) h = absurd (omega arith)
pairs_all (a ∷ b ∷ bs) h = rw (digit_is a, digit_is b, ← pairs_all bs (omega arith))
    (by_cases (is_ascii_hexdigit a) (λ s. rw s (by_cases (is_ascii_hexdigit b) (λ t. rw t) (λ t. rw t))) (λ s. rw s))

never : (p q : Bool) → false ≡ p and q and false
never true true = refl
never true false = refl
never false q = refl

pub odd : (s : List ℕ) → (length s % 2 ≡ 0 → ⊥) → false ≡ two_by_two s
unfolding two_by_two
odd [] h = absurd (h refl)
odd (a ∷ []) h = refl
odd (a ∷ b ∷ bs) h = never (is_digit a) (is_digit b) ∙ rw (sym (odd bs (λ e. h (omega arith))))

-- ---- Is it data: by the length

pub no_data : (s : List ℕ) → length s ≡ 0 → false ≡ is_data s
unfolding is_data
no_data [] h = refl
no_data (a ∷ bs) h = absurd (omega arith)

pub one_byte : (s : List ℕ) → length s ≡ 1 → eqb (get_or s 0 0) 45 ≡ is_data s
unfolding is_data
one_byte [] h = absurd (omega arith)
one_byte (a ∷ []) h = refl
one_byte (a ∷ b ∷ bs) h = absurd (omega arith)

pub some_bytes : (s : List ℕ) → 2 ≤ length s → two_by_two s ≡ is_data s
unfolding is_data
some_bytes [] h = absurd (omega arith)
some_bytes (a ∷ []) h = absurd (omega arith)
some_bytes (a ∷ b ∷ bs) h = refl
