-- Decimals within a range.
use Rattle.std.specs.Prelude.{ℕ, zero, suc, ◌+◌, ◌-◌, ◌*◌, Bool, true, false, List, [], ◌∷◌, leb, eqb, ℤ, pos, negsuc, Option, Some, None}
use Rattle.std.specs.Option.{option_map}
use Rattle.layout.specs.Choice.{pick, ◌and◌}

-- The number so far with these digits after it, never over max.
unfoldable pub decimal_from : (max sofar : ℕ) → List ℕ → Option ℕ
decimal_from max v [] = Some v
decimal_from max v (b ∷ bs) = pick (leb 48 b and leb b 57 and leb (10 * v + (b - 48)) max) (decimal_from max (10 * v + (b - 48)) bs) None

-- A word with a digit at least.
unfoldable pub decimal_of : (max : ℕ) → List ℕ → Option ℕ
decimal_of max [] = None
decimal_of max (b ∷ bs) = decimal_from max 0 (b ∷ bs)

-- Digits alone, one at least: a decimal of any length.
unfoldable pub digits_alone : List ℕ → Bool
digits_alone [] = true
digits_alone (b ∷ bs) = leb 48 b and leb b 57 and digits_alone bs

unfoldable pub is_decimal : List ℕ → Bool
is_decimal [] = false
is_decimal (b ∷ bs) = digits_alone (b ∷ bs)

-- The number n below 0; 0 has no sign.
abbrev pub under : ℕ → ℤ
under zero = pos 0
under (suc n) = negsuc n

-- A number with a minus before it.
abbrev pub below0 : Option ℕ → Option ℤ
below0 n = option_map under n

-- A number from 0 on.
abbrev pub from0 : Option ℕ → Option ℤ
from0 n = option_map pos n

-- A decimal of -32,768 to 32,767; 45 is `-`.
unfoldable pub small_of : List ℕ → Option ℤ
small_of [] = None
small_of (b ∷ bs) = pick (eqb b 45) (below0 (decimal_of 32768 bs)) (from0 (decimal_of 32767 (b ∷ bs)))
