use Rattle.writer_push_plan.proofs.PlanLaws.{loops_off, loops_asked, loops-held, loops-last, loops_past}
use borrow.Author.Rules.{rules}
use Rattle.writer_push_plan.proofs.loop_due.Goals as goal

pub returns-then-held : goal.returns-then-held
returns-then-held c = search (loops-held, rules)

pub returns-then-last : goal.returns-then-last
returns-then-last c = search (loops-last, rules)

pub returns-in-Disabled : goal.returns-in-Disabled
returns-in-Disabled c = search (loops_off, rules)

pub returns-else-last : goal.returns-else-last
returns-else-last c = search (loops_past, rules)

pub returns-in-Auto : goal.returns-in-Auto
returns-in-Auto c = search (loops_asked, rules)
