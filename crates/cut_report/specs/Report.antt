-- The lines that `cut` prints beside listings (docs/CUT.md, "The answer"); a line's form is the listing's.
use Rattle.std.specs.Prelude.{ℕ, ◌+◌, ◌*◌, List, [], ◌∷◌, take, leb}
use Rattle.layout.specs.Choice.{pick}
use Rattle.key_lines.specs.Lines.{line}
use Rattle.key_lines.specs.declared.Column.TheVariants.{Number}
use Rattle.writer.specs.declared.Place.{Place}
use Rattle.writer.specs.Calls.{Reply}
use Rattle.cut_report.specs.declared.ReportLine.{ReportLine}

-- DONE and the call's number, of finish the length too; or STOP, the number and the refusal
abbrev pub reply_line : (call : ℕ) → Reply → List ℕ
reply_line call (Reply.Refused why) = line (83 ∷ 84 ∷ 79 ∷ 80 ∷ []) (Number call ∷ Number why ∷ [])
reply_line call Reply.NoWrite = line (68 ∷ 79 ∷ 78 ∷ 69 ∷ []) (Number call ∷ [])
reply_line call (Reply.OneWrite place) = line (68 ∷ 79 ∷ 78 ∷ 69 ∷ []) (Number call ∷ [])
reply_line call (Reply.ThreeWrites size start rest mark) = line (68 ∷ 79 ∷ 78 ∷ 69 ∷ []) (Number call ∷ Number size ∷ [])

-- WRIT, the call's number, and a write's offset and length
abbrev pub write_line : (call : ℕ) → Place → List ℕ
write_line call place = line (87 ∷ 82 ∷ 73 ∷ 84 ∷ []) (Number call ∷ Number place.offset ∷ Number place.length ∷ [])

-- TIME and a run's first and last moment
abbrev pub time_line : (first last : ℕ) → List ℕ
time_line first last = line (84 ∷ 73 ∷ 77 ∷ 69 ∷ []) (Number first ∷ Number last ∷ [])

-- LINE and the number of a script's first wrong line
abbrev pub script_line : (number : ℕ) → List ℕ
script_line number = line (76 ∷ 73 ∷ 78 ∷ 69 ∷ []) (Number number ∷ [])

-- The room of a line: its word, three columns of the widest kind, the newline.
abbrev pub line_room : ℕ
line_room = 4 + 3 * 21 + 1

-- A line's bytes in its record.
unfoldable pub line_in : ReportLine → List ℕ
line_in l = pick (leb l.length line_room) (take l.length l.bytes) []
