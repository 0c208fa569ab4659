use Rattle.script_lines.specs.Lines.{push_line}
use Rattle.script_lines.proofs.lines.push_line.Goals as goal

pub returns : goal.returns
unfolding push_line
returns c = rw (c.number_at.ensures.0, c.number_at-2.ensures.0)
