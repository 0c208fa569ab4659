-- Parts of the recorded input: empty where they are not wholly there.
use Rattle.std.specs.Prelude.{ℕ, ◌+◌, List, [], length, take, drop, leb, Option, Some, None}
use Rattle.layout.specs.Choice.{pick}

-- n bytes from at on.
unfoldable pub part_at : List ℕ → (at n : ℕ) → List ℕ
part_at s at n = pick (leb (at + n) (length s)) (take n (drop at s)) []

-- How many cases are other than recorded: one, if there is such a place in it.
abbrev pub others_at : (place : Option ℕ) → ℕ
others_at None = 0
others_at (Some place) = 1
