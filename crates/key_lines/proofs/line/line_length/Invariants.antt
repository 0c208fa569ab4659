use Rattle.key_lines.proofs.LineLaws.{Widths}
use Rattle.key_lines.proofs.line.line_length.Given as goal

abbrev pub invariant-loop-column : goal.invariant-loop-column
invariant-loop-column l =
    Widths l.columns l.n l.column-index
