use Rattle.key_listing.proofs.LineLaws.{filling-none, filling-more, filled}
use Rattle.key_listing.proofs.listing.fill.Goals as goal

pub loop-line-init : goal.loop-line-init
loop-line-init c = filling-none

pub loop-line-preserved : goal.loop-line-preserved
loop-line-preserved c = filling-more c.loop-line.invariant c.in-Some.ensures

pub returns : goal.returns
returns c = filled c.loop-line.invariant c.next_line.ensures c.in_default.is
