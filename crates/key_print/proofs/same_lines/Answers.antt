use Rattle.std.proofs.Common.{arith, rules}
use borrow.Author.Tests.{eqb-false}
use Rattle.key_print.proofs.PortionLaws.{alike_start, alike_next, held_next, ended-one, ended-other, apart-here, less_left}
use Rattle.key_print.proofs.same_lines.Goals as goal

pub loop-left-init : goal.loop-left-init
loop-left-init c = (
  alike_start _ _ _ _ _ _ _ _ (omega arith) (omega arith),
  ((record { order = omega arith; inside = omega arith }, record { order = omega arith; inside = omega arith }), (search rules, search rules)),
)

pub returns-then-left-clause-fact : goal.returns-then-left-clause-fact
returns-then-left-clause-fact c =
    λ t. ended-one c.loop-left.invariant.0 c.more-left.ensures c.more-right.ensures c.if-left.true (eqb-false _ _ t)

pub returns-then-right-clause-fact : goal.returns-then-right-clause-fact
returns-then-right-clause-fact c =
    λ t. ended-other c.loop-left.invariant.0 c.more-left.ensures c.more-right.ensures c.if-right.true c.if-left.false

pub returns-then-ne-clause-fact : goal.returns-then-ne-clause-fact
returns-then-ne-clause-fact c =
    λ t. apart-here c.loop-left.invariant.0 c.more-left.ensures c.more-right.ensures c.min-k.result (omega (arith, c.min-k.ensures)) (omega (arith, c.min-k.ensures)) c.if-ne.ensures

pub loop-left-smaller : goal.loop-left-smaller
loop-left-smaller c =
    let l = c.more-left.ensures.held.order in
    let r = c.more-right.ensures.held.order in
    less_left c.loop-left.invariant.0 c.more-left.ensures c.more-right.ensures c.min-k.result (omega (arith, c.min-k.ensures)) (omega (arith, c.min-k.ensures))
    (λ z. omega (arith, c.min-k.ensures, c.if-left.false, c.if-right.false))

pub loop-left-preserved : goal.loop-left-preserved
loop-left-preserved c =
    let k = c.min-k.result in (
      alike_next c.loop-left.invariant.0 c.more-left.ensures c.more-right.ensures k (omega (arith, c.min-k.ensures)) (omega (arith, c.min-k.ensures)) c.if-ne.ensures,
      (
        (held_next k c.more-left.ensures.held (omega (arith, c.min-k.ensures)), held_next k c.more-right.ensures.held (omega (arith, c.min-k.ensures))),
        (search rules, search rules),
      ),
    )
