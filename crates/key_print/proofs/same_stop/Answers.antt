use borrow.Author.Tests.{eqb-true}
use Rattle.key_print.proofs.PortionLaws.{same-stops}
use Rattle.key_print.proofs.same_stop.Goals as goal

pub returns-in-Stop-Stop : goal.returns-in-Stop-Stop
returns-in-Stop-Stop c = λ t. same-stops c.in-Stop-Stop.is-0 c.in-Stop-Stop.is-1 (eqb-true _ _ t)
