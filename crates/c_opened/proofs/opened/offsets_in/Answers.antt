use Rattle.c_opened.proofs.KeptReads.{offsets_unread, offsets_next, offsets_read}
use borrow.Author.Rules.{rules}
use Rattle.c_opened.proofs.opened.offsets_in.Goals as goal

pub loop-i-init : goal.loop-i-init
loop-i-init c = offsets_unread

pub loop-i-preserved : goal.loop-i-preserved
loop-i-preserved c = search (offsets_next, rules)

pub returns : goal.returns
returns c = search (offsets_read, rules)
