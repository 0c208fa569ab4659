-- Bytes put into a lent buffer.
use Rattle.std.specs.Prelude.{ℕ, ◌+◌, List, length, leb}
use Rattle.layout.specs.Choice.{pick}
use Rattle.layout.specs.Lists.{put}

-- These bytes from an offset on, all others unchanged; nothing is changed where the bytes do not fit wholly.
unfoldable pub put_at : List ℕ → ℕ → List ℕ → List ℕ
put_at s at bs = pick (leb (at + length bs) (length s)) (put s at bs) s
