use Rattle.script_lines.specs.Lines.{lent_line}
use Rattle.script_lines.proofs.lines.lent_line.Goals as goal

pub returns : goal.returns
unfolding lent_line
returns c = c.number_at.ensures.0
