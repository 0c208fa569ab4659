use native.Mathlib.Omega.{arith}
use Rattle.script_groups.proofs.OrderLaws.{opens-none, opens-here, opens_later, opens_never}
use borrow.Author.Rules.{rules}
use Rattle.script_groups.proofs.start_of.Goals as goal

pub loop-at-init : goal.loop-at-init
loop-at-init c = opens-none _ _

pub returns-in-Begin : goal.returns-in-Begin
returns-in-Begin c = opens-here c.loop-at.invariant c.loop-at-test.true c.line_at-line.ensures
    c.kind_of-kind.ensures c.in-Begin.is

pub loop-at-smaller : goal.loop-at-smaller
loop-at-smaller c = omega (arith, c.next_line-at.ensures.upper_bound.1 c.loop-at-test.true)

pub loop-at-preserved : goal.loop-at-preserved
loop-at-preserved c = opens_later c.loop-at.invariant c.loop-at-test.true
    c.line_at-line.ensures c.kind_of-kind.ensures c.in_default.not-Begin
    c.lent_after-length.ensures c.next_line-at.ensures.s_value

pub returns : goal.returns
returns c = opens_never c.loop-at.invariant (search rules)
