use Rattle.script_lines.specs.Lines.{number_at}
use Rattle.script_lines.proofs.LineLaws.{unwrap_small}
use Rattle.script_lines.proofs.lines.number_at.Goals as goal

pub returns : goal.returns
unfolding number_at
returns c = rw (← c.word.ensures, ← c.unsigned.ensures.value) (c.unwrap_or.ensures, rw c.unwrap_or.ensures (unwrap_small _ c.unsigned.ensures.value_le_max))
