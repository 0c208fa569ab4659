use borrow.Author.Tests.{eq-eqb, ne_eqb}
use Rattle.script_lines.proofs.kinds.with_words.Goals as goal

pub returns-then-count-due : goal.returns-then-count-due
returns-then-count-due c = rw (eq-eqb _ _ c.if-count-due.true)

pub returns-else-count-due : goal.returns-else-count-due
returns-else-count-due c = rw (ne_eqb _ _ c.if-count-due.false)
