use borrow.Author.Rules.{rules}
use native.Mathlib.Omega.{arith}
use Rattle.layout.proofs.FieldLaws.{got, missed, handed_on, answer_out}
use Rattle.layout_read.proofs.ChannelLaws.{reading_none, reading_more, reading_all}
use Rattle.layout_read.proofs.channels.read_coefficients.Goals as goal

pub returns-then-s-at : goal.returns-then-s-at
returns-then-s-at c = answer_out _ _ _ (omega arith)

pub loop-i-init : goal.loop-i-init
loop-i-init c = reading_none _ _ (omega arith)

pub returns-in_err-coefficient : goal.returns-in_err-coefficient
returns-in_err-coefficient c = handed_on _ _ c.from_residual.ensures.1 (missed c.in_err-coefficient.ensures) _ _ (omega arith)

pub loop-i-preserved : goal.loop-i-preserved
loop-i-preserved c = reading_more c.loop-i.invariant c.loop-i-test.true (got c.in_ok-coefficient.ensures) (search rules)

pub returns : goal.returns
returns c = reading_all c.loop-i.invariant (omega arith)
