use Rattle.script_lines.specs.Lines.{says_number}
use Rattle.script_lines.proofs.lines.says_number.Goals as goal

pub returns : goal.returns
unfolding says_number
returns c = rw (← c.word.ensures, ← c.unsigned.ensures.value) c.is_some.ensures
