use Rattle.c_opened.proofs.KeptReads.{loop-number}
use borrow.Author.Rules.{rules}
use Rattle.c_opened.proofs.put.loop_number.Goals as goal

pub returns-in-Some : goal.returns-in-Some
returns-in-Some c = search (loop-number, rules)
