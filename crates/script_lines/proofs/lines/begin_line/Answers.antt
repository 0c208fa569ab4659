use Rattle.script_lines.specs.Lines.{begin_line}
use Rattle.script_lines.proofs.lines.begin_line.Goals as goal

pub returns : goal.returns
unfolding begin_line
returns c = rw (c.mode_of.ensures, c.number_at.ensures.0, c.number_at-2.ensures.0)
