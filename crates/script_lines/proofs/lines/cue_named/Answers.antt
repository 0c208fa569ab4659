use Rattle.script_lines.specs.Lines.{cue_named}
use Rattle.script_lines.proofs.lines.cue_named.Goals as goal

pub returns : goal.returns
unfolding cue_named
returns c = rw (c.number_at.ensures.0, c.number_at-2.ensures.0)
