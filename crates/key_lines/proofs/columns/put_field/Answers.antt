use Rattle.std.proofs.Common.{arith}
use Rattle.key_lines.proofs.ColumnLaws.{column-length}
use Rattle.key_lines.proofs.LineLaws.{field_as}
use Rattle.key_lines.proofs.columns.put_field.Goals as goal

pub returns-in-Number : goal.returns-in-Number
returns-in-Number c =
    field_as _ _ _ 11 c.in-Number.is c.put_column.ensures (column-length 11 _) (omega arith)

pub returns-in-Start : goal.returns-in-Start
returns-in-Start c =
    field_as _ _ _ 21 c.in-Start.is c.put_column-in-Start.ensures (column-length 21 _) (omega arith)
