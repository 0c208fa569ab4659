use borrow.Author.Rules.{rules}
use native.Mathlib.Omega.{arith}
use Rattle.layout.proofs.FieldLaws.{got, missed, handed_on}
use Rattle.layout_read.proofs.ReadLaws.{context-made}
use Rattle.layout_read.proofs.context.read_context.Goals as goal

pub returns-in_err-predictor_and_scale : goal.returns-in_err-predictor_and_scale
returns-in_err-predictor_and_scale c = handed_on _ _ c.from_residual.ensures.1 (missed c.in_err-predictor_and_scale.ensures) _ _ (omega arith)

pub overflow_add-at : goal.overflow_add-at
overflow_add-at c = let f = got c.in_ok-predictor_and_scale.ensures in omega (arith, f.inside)

pub returns-in_err-last : goal.returns-in_err-last
returns-in_err-last c = handed_on _ _ c.from_residual-in_err-last.ensures.1 (missed c.in_err-last.ensures) _ _ (omega arith)

pub overflow_add-at-2 : goal.overflow_add-at-2
overflow_add-at-2 c = let f = got c.in_ok-last.ensures in omega (arith, f.inside)

pub returns-in_err-oldest : goal.returns-in_err-oldest
returns-in_err-oldest c = handed_on _ _ c.from_residual-in_err-oldest.ensures.1 (missed c.in_err-oldest.ensures) _ _ (omega arith)

pub returns : goal.returns
returns c = context-made _ _ (got c.in_ok-predictor_and_scale.ensures) (got c.in_ok-last.ensures) (got c.in_ok-oldest.ensures) (search rules) (search rules)
