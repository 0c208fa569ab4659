use Rattle.c_record_put.proofs.TableLaws.{entries_none, entries_more, entries_all}
use borrow.Author.Rules.{rules}
use Rattle.c_record_put.proofs.table.put_cues.Goals as goal

pub loop-i-init : goal.loop-i-init
loop-i-init c = entries_none _ _ _

pub loop-i-preserved : goal.loop-i-preserved
loop-i-preserved c = search (entries_more, rules)

pub returns : goal.returns
returns c = entries_all _ _ _ _ _ c.loop-i.invariant c.loop-i-test.false
