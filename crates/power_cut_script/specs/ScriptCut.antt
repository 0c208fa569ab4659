-- The power cut of a script's loading, at every moment.
use Rattle.std.specs.Prelude.{ℕ, ◌≡◌, List, length}
use Rattle.layout.specs.Types.{Slice}
use Rattle.writer.specs.Loading.{accepted}
use Rattle.power_cut.specs.LoadingBook.{Book, begun, book_run}
use Rattle.power_cut.specs.PowerCut.{AfterCut}
use Rattle.power_cut_moments.specs.Moments.{slot_at, taken_at}
use Rattle.script_lines.specs.Lines.{begin_line}
use Rattle.script_run.specs.Script.{begin_line_in, begins, calls_of, script_writes}
use Rattle.writer.specs.Calls.{answer_of}

-- The loading book after a script's begin, on a slot of this length.
abbrev pub begun_by : (slot : ℕ) → (script : List ℕ) → Book
begun_by n s = begun n (begin_line (begin_line_in s).line).channels (begin_line (begin_line_in s).line).mode

-- For every earlier slot and every script whose begin is accepted on it, at every moment: the slot that the bytes so far leave opens to what the book says.
unfoldable pub ScriptCut : Type 0
ScriptCut =
    (earlier : List ℕ) → Slice earlier → (script : List ℕ) → Slice script → answer_of (begins (length earlier) script) ≡ accepted 0
    → (moment : ℕ)
    → AfterCut earlier (book_run (begun_by (length earlier) script) (calls_of script)) (script_writes (length earlier) script) (taken_at (script_writes (length earlier) script) moment)
    (slot_at earlier (script_writes (length earlier) script) moment)
