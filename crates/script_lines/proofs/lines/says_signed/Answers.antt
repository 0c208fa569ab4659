use Rattle.script_lines.specs.Lines.{says_signed}
use Rattle.script_lines.proofs.lines.says_signed.Goals as goal

pub returns : goal.returns
unfolding says_signed
returns c = rw (← c.word.ensures, ← c.signed.ensures) c.is_some.ensures
