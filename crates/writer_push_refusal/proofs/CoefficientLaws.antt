-- Coefficients compared, one after the other.
use Rattle.std.proofs.Common.{◌≡◌, ℤ, pos, negsuc, List, [], ◌∷◌, refl, arith}
use Rattle.std.specs.Ordering.{int_eq}
use lib.Pointwise.{pointwise}
use Rattle.layout.proofs.Cases.{by_cases}
use Rattle.writer.specs.Loading.{eq_z, same_z}

is_eq_z : (x y : ℤ) → int_eq x y ≡ eq_z x y
is_eq_z (pos m) (pos n) = grind arith
is_eq_z (pos m) (negsuc n) = grind arith
is_eq_z (negsuc m) (pos n) = grind arith
is_eq_z (negsuc m) (negsuc n) = grind arith

pub is_same : (xs ys : List ℤ) → pointwise int_eq xs ys ≡ same_z xs ys
unfolding same_z
is_same [] [] = refl
is_same [] (y ∷ ys) = refl
is_same (x ∷ xs) [] = refl
is_same (x ∷ xs) (y ∷ ys) = rw (is_eq_z x y, is_same xs ys) (by_cases (eq_z x y) (λ q. rw q) (λ q. rw q))
