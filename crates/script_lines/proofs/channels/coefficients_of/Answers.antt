use Rattle.script_lines.proofs.ChannelLaws.{read_none, read_more, read_all}
use borrow.Author.Rules.{rules}
use Rattle.script_lines.proofs.channels.coefficients_of.Goals as goal

pub loop-i-init : goal.loop-i-init
loop-i-init c = read_none _

pub loop-i-preserved : goal.loop-i-preserved
loop-i-preserved c = let e = read_more c.loop-i.invariant (search rules) c.signed_at.ensures in search (e, rules)

pub returns : goal.returns
returns c = read_all c.loop-i.invariant (search rules)
