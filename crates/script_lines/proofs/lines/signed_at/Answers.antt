use borrow.Author.Rules.{rules}
use Rattle.script_lines.specs.Lines.{signed_at}
use Rattle.script_lines.proofs.lines.signed_at.Goals as goal

pub returns : goal.returns
unfolding signed_at
returns c = rw (← c.word.ensures, ← c.signed.ensures) (search rules)
