-- Data, "two digits a byte".
use Rattle.std.specs.Prelude.{ℕ, ◌+◌, ◌-◌, ◌*◌, List, [], ◌∷◌, Bool, true, false, ltb, leb, eqb}
use Rattle.layout.specs.Choice.{pick, ◌or◌, ◌and◌}

-- A hexadecimal digit's value, 0 where it is none: 48 is `0`, 65 `A`, 97 `a`.
unfoldable pub digit_of : ℕ → ℕ
digit_of b =
    pick (ltb b 48) 0 (pick (ltb b 58) (b - 48) (pick (ltb b 65) 0 (pick (ltb b 71) (b - 55) (pick (ltb b 97) 0 (pick (ltb b 103) (b - 87) 0)))))

-- The bytes of a word's digits, two by two; none of `-`.
unfoldable pub bytes_said : List ℕ → List ℕ
bytes_said [] = []
bytes_said (a ∷ []) = []
bytes_said (a ∷ b ∷ bs) = (16 * digit_of a + digit_of b) ∷ bytes_said bs

-- Is it a hexadecimal digit?
unfoldable pub is_digit : ℕ → Bool
is_digit b = (leb 48 b and leb b 57) or (leb 65 b and leb b 70) or (leb 97 b and leb b 102)

-- Digits two by two.
unfoldable pub two_by_two : List ℕ → Bool
two_by_two [] = true
two_by_two (a ∷ []) = false
two_by_two (a ∷ b ∷ bs) = is_digit a and is_digit b and two_by_two bs

-- "HEX: the data, two digits a byte, `-` for none": 45 is `-`
unfoldable pub is_data : List ℕ → Bool
is_data [] = false
is_data (a ∷ []) = eqb a 45
is_data (a ∷ b ∷ bs) = two_by_two (a ∷ b ∷ bs)
