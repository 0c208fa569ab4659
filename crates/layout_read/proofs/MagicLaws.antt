-- The first eight bytes compared with the magic, byte after byte, and what the answer says.
use Prim.Native.Nat.{ℕ, ◌≤◌, ◌<◌}
use mathlib.Core.Path.{◌≡◌, refl, sym, ◌∙◌}
use mathlib.Core.Bool.{Bool}
use mathlib.Core.List.{List, [], ◌∷◌}
use borrow.Author.Tests.{eq-eqb, ne_eqb, eqb-true, eqb-false}
use lib.Dec.{eqb}
use lib.ListN.{length, take}
use Rattle.std.specs.List.{starts_with}
use Rattle.std.specs.Cmp.Lexicographic.{pointwise}
use Rattle.layout.specs.Choice.{pick}
use Rattle.layout.specs.Lists.{same}
use Rattle.layout.specs.Records.{Read, magic, read_magic}
use Rattle.layout.proofs.FieldLaws.{field-inside, field_past}
use Rattle.layout.proofs.Cases.{by_cases, both}

-- ---- Two lists of numbers, compared element by element

eqb_turned : (x y : ℕ) → eqb x y ≡ eqb y x
eqb_turned x y = by_cases (eqb x y) (λ t. t ∙ sym (eq-eqb y x (sym (eqb-true x y t)))) (λ f. f ∙ sym (ne_eqb y x (λ e. eqb-false x y f (sym e))))

pub pointwise_same : (xs ys : List ℕ) → pointwise eqb ys xs ≡ same xs ys
unfolding same
pointwise_same [] [] = refl
pointwise_same [] (y ∷ ys) = refl
pointwise_same (x ∷ xs) [] = refl
pointwise_same (x ∷ xs) (y ∷ ys) = rw (pointwise_same xs ys, eqb_turned y x) (both (eqb x y) (same xs ys))

-- ---- The answer that the bytes come to

module _ (s : List ℕ) where
  pub magic_short : length s < 8 → Read.refused 1 ≡ read_magic s
  unfolding read_magic
  magic_short h = rw (field_past s 8 (take 8 s) h)

  -- the comparison is that of the definition
  pub magic_compared : {t : Bool} → 8 ≤ length s → t ≡ starts_with eqb s magic → pick t (Read.value magic) (Read.refused 2) ≡ read_magic s
  unfolding read_magic
  magic_compared h e = rw (field-inside s 8 (take 8 s) h, e, pointwise_same (take 8 s) magic)
