use Rattle.key_lines.proofs.LineLaws.{widths_more}
use Rattle.key_lines.proofs.line.line_length.Goals as goal

pub loop-column-preserved : goal.loop-column-preserved
loop-column-preserved c = widths_more c.loop-column.invariant c.loop-column-test.true _ _ _ c.width.ensures c.saturating_add-n.ensures
