-- Whole numbers, `ℤ`: `pos n` is n, `negsuc n` is -(n + 1).
use Rattle.std.specs.Prelude.{ℕ, ◌/◌, ◌<◌, ◌≡◌, ℤ, pos, negsuc, ◌+ℤ◌, ◌*ℤ◌}
use Rattle.std.specs.Int.Signed.{lt_z}
use Rattle.layout.specs.Choice.{pick}

-- z / m "rounded towards minus infinity", m above 0: of -(n + 1) it is -(n / m + 1)
unfoldable pub floor_div : ℤ → ℕ → ℤ
floor_div (pos n) m = pos (n / m)
floor_div (negsuc n) m = negsuc (n / m)

-- That quotient: z = q m + r with 0 <= r < m.
pub record QuotientDown (z : ℤ) (m : ℕ) (q : ℤ) : Type 0 where
  pub rest : ℕ
  pub below : rest < m
  pub whole : z ≡ q *ℤ pos m +ℤ pos rest

-- `floor_div` gives it, for every z and every m above 0.
unfoldable pub RoundedDown : Type 0
RoundedDown = (z : ℤ) (m : ℕ) → 0 < m → QuotientDown z m (floor_div z m)

-- z "clamped to 16 bits": at least -32,768 and at most 32,767
unfoldable pub clamped : ℤ → ℤ
clamped z = pick (lt_z z (negsuc 32767)) (negsuc 32767) (pick (lt_z (pos 32767) z) (pos 32767) z)
