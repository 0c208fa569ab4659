use mathlib.Core.Path.{sym}
use Rattle.key_lines.proofs.ColumnLaws.{column-length}
use Rattle.key_lines.proofs.columns.width.Goals as goal

pub returns-in-Number : goal.returns-in-Number
returns-in-Number c = rw c.in-Number.is (sym (column-length 11 _))

pub returns-in-Start : goal.returns-in-Start
returns-in-Start c = rw c.in-Start.is (sym (column-length 21 _))
