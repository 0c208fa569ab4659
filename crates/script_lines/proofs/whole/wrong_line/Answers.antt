use native.Mathlib.Omega.{arith}
use borrow.Author.Tests.{not-true, not-false}
use Rattle.script_lines.proofs.WholeLaws.{walk_none, walk_wrong, walk_more, walk_unbegun, walk_due, walk_all}
use Rattle.script_lines.proofs.whole.wrong_line.Goals as goal

pub loop-at-init : goal.loop-at-init
loop-at-init c = walk_none _

pub returns-in_default-clause-value : goal.returns-in_default-clause-value
returns-in_default-clause-value c = walk_wrong c.loop-at.invariant c.loop-at-test.true c.line_at.ensures c.in_default.ensures

pub loop-at-smaller : goal.loop-at-smaller
loop-at-smaller c = omega (arith, c.next_line-at.ensures.upper_bound.1 c.loop-at-test.true)

pub loop-at-preserved : goal.loop-at-preserved
loop-at-preserved c = walk_more c.loop-at.invariant c.loop-at-test.true
    c.line_at.ensures c.in-Some.ensures c.next_line-at.ensures.s_value c.next_line-at.ensures.upper_bound

pub returns-then-not-due-clause-value : goal.returns-then-not-due-clause-value
returns-then-not-due-clause-value c = walk_unbegun c.loop-at.invariant c.loop-at-test.false (not-true _ c.if-not-due.true)

pub returns-then-due-gt0-clause-value : goal.returns-then-due-gt0-clause-value
returns-then-due-gt0-clause-value c = walk_due c.loop-at.invariant c.loop-at-test.false (not-false _ c.if-not-due.false) c.if-due-gt0.true

pub returns-clause-value : goal.returns-clause-value
returns-clause-value c = walk_all c.loop-at.invariant c.loop-at-test.false (not-false _ c.if-not-due.false) c.if-due-gt0.false
