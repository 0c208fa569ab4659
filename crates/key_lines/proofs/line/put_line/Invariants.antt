use Rattle.key_lines.proofs.LineLaws.{Columns}
use Rattle.key_lines.proofs.line.put_line.Given as goal

abbrev pub invariant-loop-column : goal.invariant-loop-column
invariant-loop-column l =
    Columns l.fn.out l.at l.word l.columns l.out l.end l.column-index
