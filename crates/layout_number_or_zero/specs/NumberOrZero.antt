-- Big-endian numbers at an offset of some bytes: 0 where they are not wholly there.
use Rattle.std.specs.Prelude.{ℕ, ◌+◌, ◌*◌, List, length, leb, ℤ, pos}
use Rattle.layout.specs.Choice.{pick}
use Rattle.layout.specs.Records.{u16_at, u32_at, i16_at}

-- A u16.
unfoldable pub half_at : List ℕ → (at : ℕ) → ℕ
half_at s at = pick (leb (at + 2) (length s)) (u16_at s at) 0

-- An i16.
unfoldable pub signed_at : List ℕ → (at : ℕ) → ℤ
signed_at s at = pick (leb (at + 2) (length s)) (i16_at s at) (pos 0)

-- A u32.
unfoldable pub word_at : List ℕ → (at : ℕ) → ℕ
word_at s at = pick (leb (at + 4) (length s)) (u32_at s at) 0

-- A u64: two u32, the high half first.
unfoldable pub long_at : List ℕ → (at : ℕ) → ℕ
long_at s at = pick (leb (at + 8) (length s)) (u32_at s at * 4294967296 + u32_at s (at + 4)) 0
