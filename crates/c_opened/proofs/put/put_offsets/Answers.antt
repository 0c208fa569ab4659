use Rattle.c_opened.proofs.KeptPuts.{offsets_none, offsets_more, offsets_all}
use borrow.Author.Rules.{rules}
use Rattle.c_opened.proofs.put.put_offsets.Goals as goal

pub loop-i-init : goal.loop-i-init
loop-i-init c = offsets_none c.requires.0 c.requires.1

pub loop-i-preserved : goal.loop-i-preserved
loop-i-preserved c = search (offsets_more, rules)

pub returns : goal.returns
returns c = search (offsets_all, rules)
