-- As many lines of a listing as fit into a room, and what the calls that put them do.
use Rattle.std.specs.Prelude.{ℕ, ◌-◌, ◌<◌, ◌≡◌, List, [], ◌∷◌, ◌++◌, length, leb, eqb, Option, Some, None, IfSome}
use Rattle.layout.specs.Choice.{pick}
use Rattle.layout.specs.Puts.{put_at}
use Rattle.reader.specs.declared.HpsReader.{HpsReader}
use Rattle.key_listing.specs.declared.Stage.{Stage}
use Rattle.key_listing.specs.declared.listing.Line.{Line}
use Rattle.key_listing.specs.MarkingKey.{lines_from}

-- The whole lines, from the first on, that fit into a room of so many bytes, one after the other: the first that does not fit ends them.
unfoldable pub lines_fitting : (room : ℕ) → (lines : List (List ℕ)) → List ℕ
lines_fitting room [] = []
lines_fitting room (l ∷ ls) = pick (leb (length l) room) (l ++ lines_fitting (room - length l) ls) []

-- The lines from that one on.
unfoldable pub lines_beyond : (room : ℕ) → (lines : List (List ℕ)) → List (List ℕ)
lines_beyond room [] = []
lines_beyond room (l ∷ ls) = pick (leb (length l) room) (lines_beyond (room - length l) ls) (l ∷ ls)

-- The first line where it fits, else nothing; and the lines that are left then.
abbrev pub line_fitting : (room : ℕ) → (lines : List (List ℕ)) → List ℕ
line_fitting room [] = []
line_fitting room (l ∷ ls) = pick (leb (length l) room) l []

abbrev pub lines_after : (room : ℕ) → (lines : List (List ℕ)) → List (List ℕ)
lines_after room [] = []
lines_after room (l ∷ ls) = pick (leb (length l) room) ls (l ∷ ls)

-- A line of n bytes and the stage after it; where n is 0 it was not put.
abbrev pub line_or : (n : ℕ) → (next : Stage) → Option Line
line_or n next = pick (eqb n 0) None (Some (record { length = n; stage = next }))

-- How many bytes were put, and the stage from which the other lines come: the same one where there is no line.
abbrev pub length_put : Option Line → ℕ
length_put None = 0
length_put (Some q) = q.length

abbrev pub stage_after : (same : Stage) → Option Line → Stage
stage_after same None = same
stage_after same (Some q) = q.stage

-- ---- What is put and how long it is, the rest of the buffer unchanged, and the stage from which the other lines come

-- The next line from an offset on, where there is one and it fits: it has bytes.
pub record LineIs (s : List ℕ) (r : HpsReader) (stage : Stage) (before : List ℕ) (at : ℕ) (after : List ℕ) (q : Option Line) : Type 0 where
  pub some : IfSome q (λ l. 0 < l.length)
  pub long : length_put q ≡ length (line_fitting (length before - at) (lines_from s r stage))
  pub put : after ≡ put_at before at (line_fitting (length before - at) (lines_from s r stage))
  pub rest : lines_from s r (stage_after stage q) ≡ lines_after (length before - at) (lines_from s r stage)

-- As many lines as fit into the buffer, from its start.
pub record FilledIs (s : List ℕ) (r : HpsReader) (stage : Stage) (before after : List ℕ) (q : Line) : Type 0 where
  pub long : q.length ≡ length (lines_fitting (length before) (lines_from s r stage))
  pub put : after ≡ put_at before 0 (lines_fitting (length before) (lines_from s r stage))
  pub rest : lines_from s r q.stage ≡ lines_beyond (length before) (lines_from s r stage)
