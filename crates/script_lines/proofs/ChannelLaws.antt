-- What a CHAN line says: coefficients read one after the other.
use Prim.Native.Nat.{ℕ, suc, ◌+◌, ◌-◌, ◌≤◌, ◌<◌}
use mathlib.Core.Path.{◌≡◌, refl, sym, ◌∙◌}
use mathlib.Core.Bool.{Bool, true, false}
use mathlib.Core.List.{List, [], ◌∷◌, ◌++◌, append-nil}
use native.Mathlib.Omega.{arith}
use native.Mathlib.Numerals.{add-one}
use lib.IntN.{ℤ, pos}
use lib.ListN.{length, set, take, replicate, length-set}
use lib.Seq.{take-suc-set, take_all, append_snoc}
use Rattle.layout.specs.Choice.{◌and◌}
use Rattle.script_lines.specs.Lines.{signed_at, says_signed, coefficients_from, says_coefficients}

-- Of the coefficients the first i are read.
pub record Reading (line : List ℕ) (values : List ℤ) (i : ℕ) : Type 0 where
  pub few : i ≤ 16
  pub size : length values ≡ 16
  pub is : coefficients_from line 7 16 ≡ take i values ++ coefficients_from line (7 + i) (16 - i)

pub read_none : (line : List ℕ) → Reading line (replicate 16 (pos 0)) 0
read_none line = record { few = omega arith; size = refl; is = refl }

module _ {line : List ℕ} {values : List ℤ} {i : ℕ} (r : Reading line values i) where
  pub read_more : {v : ℤ} → i < 16 → v ≡ signed_at line (7 + i) → Reading line (set values i v) (i + 1)
  unfolding coefficients_from
  read_more {v} h e =
      let n : 16 - i ≡ suc (16 - (i + 1)) = omega arith in
      let m : suc (7 + i) ≡ 7 + (i + 1) = omega arith in
      let t : take (i + 1) (set values i v) ≡ take i values ++ (v ∷ []) = rw (add-one i) (take-suc-set values i v (omega (arith, r.size))) in
      record {
        few = omega arith;
        size = length-set values i v ∙ r.size;
        is = r.is ∙ rw (n, m, ← e, t) (sym (append_snoc (take i values) v (coefficients_from line (7 + (i + 1)) (16 - (i + 1)))));
      }

  pub read_all : 16 ≤ i → values ≡ coefficients_from line 7 16
  unfolding coefficients_from
  read_all h =
      let n : 16 - i ≡ 0 = omega arith in
      sym (r.is ∙ rw n (append-nil (take i values)) ∙ take_all i values (omega (arith, r.size)))

-- The words from 7 to i are coefficients.
pub record Saying (line : List ℕ) (i : ℕ) : Type 0 where
  pub is : says_coefficients line 7 16 ≡ says_coefficients line i (23 - i)

pub say_none : (line : List ℕ) → Saying line 7
say_none line = record { is = refl }

module _ {line : List ℕ} {i : ℕ} (r : Saying line i) where
  here : i < 23 → says_coefficients line 7 16 ≡ says_signed line i and says_coefficients line (i + 1) (23 - (i + 1))
  unfolding says_coefficients
  here h = let n : 23 - i ≡ suc (23 - (i + 1)) = omega arith in r.is ∙ rw (n, add-one i)

  pub say_wrong : i < 23 → says_signed line i ≡ false → false ≡ says_coefficients line 7 16
  say_wrong h e = sym (here h ∙ rw e)

  pub say_more : i < 23 → says_signed line i ≡ true → Saying line (i + 1)
  say_more h e = record { is = here h ∙ rw e }

  pub say_all : 23 ≤ i → true ≡ says_coefficients line 7 16
  unfolding says_coefficients
  say_all h = let n : 23 - i ≡ 0 = omega arith in sym (r.is ∙ rw n)

-- ---- The whole line

pub and_assoc : (a b c : Bool) → (a and b) and c ≡ a and b and c
and_assoc true b c = refl
and_assoc false b c = refl
