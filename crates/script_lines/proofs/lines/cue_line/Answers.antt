use mathlib.Core.Path.{◌∙◌}
use Rattle.script_lines.specs.Lines.{range_line, cue_said}
use Rattle.script_lines.proofs.LineLaws.{point-line}
use Rattle.script_lines.proofs.lines.cue_line.Goals as goal

pub returns-in-Range : goal.returns-in-Range
unfolding cue_said range_line
returns-in-Range c = rw (c.in-Range.is, ← c.number_at-length.ensures.0) c.cue_named.ensures

pub returns-in-Loop : goal.returns-in-Loop
unfolding cue_said
returns-in-Loop c = rw c.in-Loop.is c.cue_named-in-Loop.ensures

pub returns-in_default : goal.returns-in_default
returns-in_default c = c.cue_named-in_default.ensures ∙ point-line _ _ c.in_default.not-Range c.in_default.not-Loop
