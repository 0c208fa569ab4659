use Rattle.script_lines.proofs.ChannelLaws.{say_none, say_wrong, say_more, say_all}
use borrow.Author.Rules.{rules}
use Rattle.script_lines.proofs.channels.says_coefficients.Goals as goal

pub loop-i-init : goal.loop-i-init
loop-i-init c = say_none _

pub returns-then-not-says_signed : goal.returns-then-not-says_signed
returns-then-not-says_signed c = say_wrong c.loop-i.invariant (search rules) (search rules)

pub loop-i-preserved : goal.loop-i-preserved
loop-i-preserved c = say_more c.loop-i.invariant (search rules) (search rules)

pub returns : goal.returns
returns c = say_all c.loop-i.invariant (search rules)
