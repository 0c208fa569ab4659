use borrow.Author.Rules.{rules}
use Rattle.script_lines.specs.Lines.{channel_block}
use Rattle.script_lines.proofs.channels.channel_line.Goals as goal

pub returns : goal.returns
unfolding channel_block
returns c = rw (← c.number_at.ensures.0, ← c.number_at-2.ensures.0, ← c.coefficients_of.ensures, ← c.number_at-3.ensures.0, ← c.context_of.ensures) (search rules)
