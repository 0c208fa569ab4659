use Rattle.std.proofs.Common.{arith, sym}
use Rattle.layout.proofs.FieldLaws.{failed}
use Rattle.layout.proofs.PutLaws.{put_at_out}
use Rattle.key_lines.proofs.ColumnLaws.{column-length, placing_more, placing_blank, placing_all}
use Rattle.key_lines.proofs.columns.put_column.Goals as goal

pub returns-then-left-lt10 : goal.returns-then-left-lt10
returns-then-left-lt10 c =
    placing_blank c.loop-k.invariant c.loop-k-test.true c.if-left-lt10.true _ c.digit.ensures _ c.put_fill.ensures

pub loop-k-preserved : goal.loop-k-preserved
loop-k-preserved c = rw c.digit.ensures (placing_more c.loop-k.invariant c.loop-k-test.true c.if-left-lt10.false)

pub returns-after-loop-k : goal.returns-after-loop-k
returns-after-loop-k c = placing_all c.loop-k.invariant (omega arith)

pub returns-else-inside : goal.returns-else-inside
returns-else-inside c = sym (put_at_out _ _ _ (rw column-length (failed c.inside.ensures c.if-inside.false)))
