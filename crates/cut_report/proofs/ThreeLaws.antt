-- A line in its record; and a line of three columns at most: it has its room, and is what was put.
use Prim.Native.Nat.{ℕ, ◌+◌, ◌*◌, ◌<◌, ◌≤◌}
use mathlib.Core.Path.{◌≡◌, sym, ◌∙◌}
use mathlib.Core.List.{List, [], ◌∷◌}
use native.Mathlib.Omega.{arith}
use lib.ListN.{length, take, length-append}
use lib.Seq.{take_at, length-take-le}
use borrow.Author.Tests.{le-leb, lt-leb}
use Rattle.layout.proofs.PutLaws.{put_at_in}
use Rattle.key_lines.specs.declared.Column.{Column}
use Rattle.key_lines.specs.declared.Column.TheVariants.{Number, Start, Minus}
use Rattle.key_lines.specs.Lines.{column_bytes, columns_bytes, line, LinePut}
use Rattle.cut_report.specs.Report.{line_room, line_in}
use Rattle.cut_report.specs.declared.ReportLine.{ReportLine}
use Rattle.key_lines.proofs.ColumnLaws.{column-length}

-- ---- A line in its record

pub whole : (l : ReportLine) → l.length ≤ line_room → line_in l ≡ take l.length l.bytes
unfolding line_in
whole l h = rw (le-leb l.length line_room h)

pub whole_length : (l : ReportLine) → length l.bytes ≡ line_room → l.length ≤ line_room → l.length ≡ length (line_in l)
whole_length l e h = rw (whole l h) (sym (length-take-le l.length l.bytes (omega arith)))

pub not_whole : (l : ReportLine) → line_room < l.length → 0 ≡ length (line_in l)
unfolding line_in
not_whole l h = rw (lt-leb l.length line_room h)

-- ---- A line made

column-most : (c : Column) → length (column_bytes c) ≤ 21
column-most (Number n) = omega (arith, column-length 11 n)
column-most (Start n) = omega (arith, column-length 21 n)
column-most Minus = omega arith

columns-most : (cs : List Column) → length (columns_bytes cs) ≤ 21 * length cs
columns-most [] = omega arith
columns-most (c ∷ cs) = omega (arith, length-append (column_bytes c) (columns_bytes cs), column-most c, columns-most cs)

three-most : (word : List ℕ) (cs : List Column) → length word ≡ 4 → length cs ≤ 3 → length (line word cs) ≤ 68
three-most word cs e n = simp length-append (omega (arith, columns-most cs))

pub line-there : (word : List ℕ) (cs : List Column) {out after : List ℕ} {n : ℕ} → length word ≡ 4 → length cs ≤ 3 → length out ≡ 68
    → LinePut out 0 (line word cs) after n → line_in (record { bytes = after; length = n }) ≡ line word cs
line-there word cs {out} {after} {n} w k l p =
    let bytes = line word cs in
    let h : 0 + length bytes ≤ length out = omega (arith, three-most word cs w k) in
    let m : n ≡ length bytes = p.long ∙ rw (le-leb (0 + length bytes) (length out) h) in
    whole (record { bytes = after; length = n }) (omega (arith, three-most word cs w k))
    ∙ rw (p.put, put_at_in out 0 bytes h) (take_at bytes _ n (sym m))
