-- Bounds on whole numbers by their distance from 0, `nat_abs`: of sums, products and quotients rounded down; and what fits a width by them.
use Prim.Native.Nat.{ℕ, zero, suc, ◌+◌, ◌*◌, ◌-◌, ◌^◌, ◌≤◌, ◌<◌}
use mathlib.Core.Path.{◌≡◌, refl}
use mathlib.Core.Bool.{Bool, true, false, cond}
use Rattle.layout.specs.Choice.{pick}
use native.Mathlib.Nat.{mul-le-mul_left, mul-le-mul_right, le_trans, div-le_self}
use native.Mathlib.Omega.{arith}
use lib.Dec.{ltb}
use borrow.Author.Tests.{ltb-true, ltb-false}
use lib.IntN.{ℤ, pos, negsuc, neg_ℤ, nat_abs, sub_ℕ, ◌+ℤ◌, ◌*ℤ◌}
use lib.Signed.{shr_z, lt_z}
use mir.Syntax.{Width, w16, w64}
use mir.Val.{SFits, hbits}
use Rattle.whole_numbers.specs.Whole.{floor_div, clamped}

-- The shift that copies the sign bit is the division rounded down.
pub shr_floor : (z : ℤ) (m : ℕ) → shr_z z m ≡ floor_div z m
unfolding floor_div
shr_floor (pos n) m = refl
shr_floor (negsuc n) m = refl

pub abs_neg : (n : ℕ) → nat_abs (neg_ℤ (pos n)) ≡ n
abs_neg zero = refl
abs_neg (suc n) = refl

pub abs_mul : (a b : ℤ) → nat_abs (a *ℤ b) ≡ nat_abs a * nat_abs b
abs_mul (pos a) (pos b) = refl
abs_mul (pos a) (negsuc b) = abs_neg (a * suc b)
abs_mul (negsuc a) (pos b) = abs_neg (suc a * b)
abs_mul (negsuc a) (negsuc b) = refl

abs_sub : (a b : ℕ) → nat_abs (sub_ℕ a b) ≤ a + b
abs_sub a b = by (ltb a b) refl
  where
    by : (t : Bool) → ltb a b ≡ t → nat_abs (cond t (negsuc (b - suc a)) (pos (a - b))) ≤ a + b
    by true e = omega (arith, ltb-true a b e)
    by false e = omega arith

pub abs_add : (a b : ℤ) → nat_abs (a +ℤ b) ≤ nat_abs a + nat_abs b
abs_add (pos a) (pos b) = omega arith
abs_add (pos a) (negsuc b) = abs_sub a (suc b)
abs_add (negsuc a) (pos b) = let h = abs_sub b (suc a) in omega arith
abs_add (negsuc a) (negsuc b) = omega arith

pub abs_floor : (z : ℤ) (m : ℕ) → nat_abs (floor_div z m) ≤ nat_abs z
unfolding floor_div
abs_floor (pos n) m = div-le_self n m
abs_floor (negsuc n) m = let h = div-le_self n m in omega arith

-- What fits 16 bits is at most 32768 from 0. What is that near fits a width, and what fits 16 bits fits a greater one.
pub abs16 : {z : ℤ} → SFits w16 z → nat_abs z ≤ 32768
abs16 {z = pos n} f = omega (arith, f.sfits)
abs16 {z = negsuc n} f = omega (arith, f.sfits)

pub fits_in : (w : Width) (z : ℤ) → nat_abs z < 2 ^ hbits w → SFits w z
fits_in w (pos n) h = record { sfits = h }
fits_in w (negsuc n) h = record { sfits = omega arith }

pub wide : (w : Width) {z : ℤ} → 32768 < 2 ^ hbits w → SFits w16 z → SFits w z
wide w {z} m f = fits_in w z (let h = abs16 f in omega arith)

-- Products of numbers with bounds.
pub mul_bound : {a b m n : ℕ} → a ≤ m → b ≤ n → a * b ≤ m * n
mul_bound {a} {b} {m} {n} h k = le_trans (mul-le-mul_left a k) (mul-le-mul_right n h)

pub abs_product : (a b : ℤ) {m n : ℕ} → nat_abs a ≤ m → nat_abs b ≤ n → nat_abs (a *ℤ b) ≤ m * n
abs_product a b h k = rw (abs_mul a b) (mul_bound h k)

-- A number that is clamped, or need not be, fits.
unclamped_fits : (z : ℤ) → lt_z z (negsuc 32767) ≡ false → lt_z (pos 32767) z ≡ false → SFits w16 z
unclamped_fits (pos n) d e = record { sfits = omega (arith, ltb-false 32767 n e) }
unclamped_fits (negsuc n) d e = record { sfits = omega (arith, ltb-false 32767 n d) }

-- A quotient rounded down fits where the number does; a product of what fits 16 bits fits 64.
pub floor_fits : {w : Width} {z : ℤ} (m : ℕ) → SFits w z → SFits w (floor_div z m)
unfolding floor_div
floor_fits {z = pos n} m f = record { sfits = let h = div-le_self n m in omega (arith, f.sfits) }
floor_fits {z = negsuc n} m f = record { sfits = let h = div-le_self n m in omega (arith, f.sfits) }

pub times_bound : {a b : ℤ} → SFits w16 a → SFits w16 b → nat_abs (a *ℤ b) ≤ 1073741824
times_bound {a} {b} f g = abs_product a b (abs16 f) (abs16 g)

pub times_fits : {a b : ℤ} → SFits w16 a → SFits w16 b → SFits w64 (a *ℤ b)
times_fits {a} {b} f g = fits_in w64 (a *ℤ b) (let h = times_bound f g in omega arith)

pub clamp_fits : (z : ℤ) → SFits w16 (clamped z)
unfolding clamped
clamp_fits z = by (lt_z z (negsuc 32767)) (lt_z (pos 32767) z) refl refl
  where
    by : (s t : Bool) → lt_z z (negsuc 32767) ≡ s → lt_z (pos 32767) z ≡ t → SFits w16 (pick s (negsuc 32767) (pick t (pos 32767) z))
    by true t d e = record { sfits = omega arith }
    by false true d e = record { sfits = omega arith }
    by false false d e = unclamped_fits z d e
