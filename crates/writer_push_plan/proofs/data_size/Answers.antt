use native.Mathlib.Omega.{arith}
use Rattle.writer_push_plan.proofs.PlanLaws.{left_size, both_size, aligned_small}
use borrow.Author.Rules.{rules}
use Rattle.writer_push_plan.proofs.data_size.Goals as goal

pub overflow_add-result : goal.overflow_add-result
overflow_add-result c =
    let a = c.args in
    let g = c.requires in
    omega (arith, aligned_small a.left _ g.0 c.align-size.ensures, aligned_small a.right _ (g.1 c.if-channels-eq2.true) c.align.ensures)

pub returns-then-channels-eq2 : goal.returns-then-channels-eq2
returns-then-channels-eq2 c =
    let a = c.args in
    let h = c.if-channels-eq2.true in
    let g = c.requires in
    both_size a.channels a.left a.right _ g.0 c.align-size.ensures _ h (g.1 h) c.align.ensures

pub returns : goal.returns
returns c = search (left_size, rules)
