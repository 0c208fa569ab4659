-- Lists: laws that the libraries lack. What holds of every element, bytes one after the other, the same element n times, the same list.
use Prim.Native.Nat.{ℕ, zero, suc, ◌*◌, ◌<◌}
use mathlib.Core.Path.{◌≡◌, refl, sym, ap, ◌∙◌}
use mathlib.Core.List.{List, [], ◌∷◌, ◌++◌, append_assoc, append-nil, flat_map}
use native.Mathlib.Omega.{arith}
use native.Mathlib.Nat.{le_of_suc-le-suc, not-suc-le-zero}
use lib.ListN.{length, drop, get_or, replicate, length-append}
use lib.Dec.{eqb}
use borrow.Author.Tests.{eqb-true, eq-eqb}
use mathlib.Core.Bool.{Bool, true, false}
use Rattle.layout.specs.Lists.{All, none, more, same}
use Rattle.layout.proofs.Cases.{by_cases, apart, and_true}

-- ---- Every element

module _ {A : Type 0} {Q : A → Type 0} where
  pub all_append : {xs ys : List A} → All Q xs → All Q ys → All Q (xs ++ ys)
  all_append none b = b
  all_append (more q a) b = more q (all_append a b)

  -- one more element
  pub all_snoc : {xs : List A} {x : A} → All Q xs → Q x → All Q (xs ++ (x ∷ []))
  all_snoc a q = all_append a (more q none)

  pub all_head : {x : A} {xs : List A} → All Q (x ∷ xs) → Q x
  all_head (more q a) = q

  pub all_tail : {x : A} {xs : List A} → All Q (x ∷ xs) → All Q xs
  all_tail (more q a) = a

  pub all_each : {R : A → Type 0} {xs : List A} → ((x : A) → Q x → R x) → All Q xs → All R xs
  all_each f none = none
  all_each f (more {x = x} q a) = more (f x q) (all_each f a)

  pub all_drop : (i : ℕ) (xs : List A) → All Q xs → All Q (drop i xs)
  all_drop zero xs a = a
  all_drop (suc i) [] a = none
  all_drop (suc i) (x ∷ xs) (more q a) = all_drop i xs a

  pub all-at : (d : A) (xs : List A) (i : ℕ) → All Q xs → i < length xs → Q (get_or xs i d)
  all-at d [] i a h = absurd (not-suc-le-zero h)
  all-at d (x ∷ xs) zero (more p a) h = p
  all-at d (x ∷ xs) (suc i) (more p a) h = all-at d xs i a (le_of_suc-le-suc h)

  pub all_same : (n : ℕ) (x : A) → Q x → All Q (replicate n x)
  all_same zero x q = none
  all_same (suc n) x q = more q (all_same n x q)

-- ---- Bytes one after the other

module _ {A : Type 0} (f : A → List ℕ) where
  pub flat_map_snoc : (xs : List A) (x : A) → flat_map f (xs ++ (x ∷ [])) ≡ flat_map f xs ++ f x
  unfolding flat_map
  flat_map_snoc [] x = append-nil (f x)
  flat_map_snoc (y ∷ ys) x = ap (λ (l : List ℕ). f y ++ l) (flat_map_snoc ys x) ∙ sym (append_assoc (f y) (flat_map f ys) (f x))

  -- of elements of n bytes each
  pub flat_map_length : (n : ℕ) → ((x : A) → length (f x) ≡ n) → (xs : List A) → length (flat_map f xs) ≡ n * length xs
  unfolding flat_map
  flat_map_length n h [] = omega arith
  flat_map_length n h (x ∷ xs) = length-append (f x) (flat_map f xs) ∙ omega (arith, h x, flat_map_length n h xs)

-- ---- Zeros

pub zeros_at : (n k : ℕ) → ◌≡◌ {A = ℕ} (get_or (replicate n 0) k 0) 0
zeros_at zero k = refl
zeros_at (suc n) zero = refl
zeros_at (suc n) (suc k) = zeros_at n k

-- ---- The same list

same_self : (xs : List ℕ) → same xs xs ≡ true
unfolding same
same_self [] = refl
same_self (x ∷ xs) = rw (eq-eqb x x refl) (same_self xs)

pub same-is : {xs ys : List ℕ} → xs ≡ ys → same xs ys ≡ true
same-is {xs} {ys} e = rw e (same_self ys)

pub same_equal : (xs ys : List ℕ) → same xs ys ≡ true → xs ≡ ys
unfolding same
same_equal [] [] e = refl
same_equal [] (y ∷ ys) e = apart (sym e)
same_equal (x ∷ xs) [] e = apart (sym e)
same_equal (x ∷ xs) (y ∷ ys) e =
    let p = and_true (eqb x y) (same xs ys) e in
    rw (eqb-true x y p.0, same_equal xs ys p.1)

pub same_not : {xs ys : List ℕ} → same xs ys ≡ false → xs ≡ ys → ⊥
same_not t e = apart (sym (same-is e) ∙ t)

-- What tells two lists apart is `same`.
pub decides : (b : Bool) {xs ys : List ℕ} → (b ≡ true → xs ≡ ys) → (b ≡ false → xs ≡ ys → ⊥) → b ≡ same xs ys
decides b {xs} {ys} f g =
    by_cases b
    (λ u. u ∙ sym (same-is (f u)))
    (λ u. by_cases (same xs ys) (λ t. absurd (g u (same_equal xs ys t))) (λ t. u ∙ sym t))
