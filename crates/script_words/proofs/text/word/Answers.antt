use borrow.Author.Rules.{rules}
use Rattle.script_words.proofs.TextLaws.{pass_none, pass_end, pass_more, pass_all}
use Rattle.script_words.proofs.text.word.Goals as goal

pub loop-init : goal.loop-init
loop-init c = pass_none _ _

pub returns-then-is_empty : goal.returns-then-is_empty
returns-then-is_empty c = pass_end c.loop.invariant (search rules)

pub loop-preserved : goal.loop-preserved
loop-preserved c = pass_more c.loop.invariant c.after_word-rest.ensures (search rules)

pub returns : goal.returns
returns c = pass_all c.loop.invariant c.first_word.ensures (search rules)
