use Rattle.key_lines.proofs.ColumnLaws.{Placing}
use Rattle.key_lines.proofs.columns.put_column.Given as goal

abbrev pub invariant-loop-k : goal.invariant-loop-k
invariant-loop-k l =
    Placing l.initial.out l.at l.width l.n l.out l.left l.k
