-- The code's test of a word.
use mathlib.Core.Path.{◌≡◌, refl, ap, ◌∙◌}
use mathlib.Core.List.{List, [], ◌∷◌}
use Prim.Native.Nat.{ℕ}
use lib.Dec.{eqb}
use lib.Pointwise.{pointwise}
use Rattle.layout.specs.Choice.{◌and◌}
use Rattle.layout.specs.Lists.{same}
use Rattle.layout.proofs.Cases.{both}

pub pointwise_same : (xs ys : List ℕ) → pointwise eqb xs ys ≡ same xs ys
unfolding same pointwise
pointwise_same [] [] = refl
pointwise_same [] (y ∷ ys) = refl
pointwise_same (x ∷ xs) [] = refl
pointwise_same (x ∷ xs) (y ∷ ys) = both (eqb x y) (pointwise eqb xs ys) ∙ ap (λ b. eqb x y and b) (pointwise_same xs ys)
