use native.Mathlib.Omega.{arith}
use Rattle.script_groups.proofs.OrderLaws.{seek_none, seek_found, seek_more, seek_end}
use borrow.Author.Rules.{rules}
use Rattle.script_groups.proofs.said_from.Goals as goal

pub loop-at-init : goal.loop-at-init
loop-at-init c = seek_none _ _

pub returns-then-word_count-ne0 : goal.returns-then-word_count-ne0
returns-then-word_count-ne0 c = seek_found c.loop-at.invariant c.loop-at-test.true c.line_at.ensures c.word_count.ensures
    c.if-word_count-ne0.true

pub loop-at-smaller : goal.loop-at-smaller
loop-at-smaller c = omega (arith, c.next_line-at.ensures.upper_bound.1 c.loop-at-test.true)

pub loop-at-preserved : goal.loop-at-preserved
loop-at-preserved c = seek_more c.loop-at.invariant c.loop-at-test.true c.line_at.ensures
    c.word_count.ensures c.if-word_count-ne0.false c.next_line-at.ensures.s_value

pub returns : goal.returns
returns c = seek_end c.loop-at.invariant (search rules)
