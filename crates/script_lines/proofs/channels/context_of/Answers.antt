use Rattle.script_lines.specs.Lines.{context_of}
use borrow.Author.Rules.{rules}
use Rattle.script_lines.proofs.channels.context_of.Goals as goal

pub returns : goal.returns
unfolding context_of
returns c = rw (← c.number_at.ensures.0, ← c.signed_at.ensures, ← c.signed_at-2.ensures) (search rules)
