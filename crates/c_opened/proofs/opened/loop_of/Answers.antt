use Rattle.c_opened.proofs.KeptReads.{no_loop_lem, a_loop}
use borrow.Author.Rules.{rules}
use Rattle.c_opened.proofs.opened.loop_of.Goals as goal

pub returns-then-number-eq-NO_LOOP : goal.returns-then-number-eq-NO_LOOP
returns-then-number-eq-NO_LOOP c = search (no_loop_lem, rules)

pub returns-else-number-eq-NO_LOOP : goal.returns-else-number-eq-NO_LOOP
returns-else-number-eq-NO_LOOP c = search (a_loop, rules)
