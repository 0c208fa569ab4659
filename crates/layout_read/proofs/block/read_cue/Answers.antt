use borrow.Author.Rules.{rules}
use native.Mathlib.Omega.{arith}
use Rattle.layout.proofs.FieldLaws.{got, missed, handed_on}
use Rattle.layout_read.proofs.ReadLaws.{cue-made}
use Rattle.layout_read.proofs.block.read_cue.Goals as goal

pub returns-in_err-sample_index : goal.returns-in_err-sample_index
returns-in_err-sample_index c = handed_on _ _ c.from_residual.ensures.1 (missed c.in_err-sample_index.ensures) _ _ (omega arith)

pub overflow_add-at : goal.overflow_add-at
overflow_add-at c = let f = got c.in_ok-sample_index.ensures in omega (arith, f.inside)

pub returns-in_err-id : goal.returns-in_err-id
returns-in_err-id c = handed_on _ _ c.from_residual-in_err-id.ensures.1 (missed c.in_err-id.ensures) _ _ (omega arith)

pub returns : goal.returns
returns c = cue-made _ _ (got c.in_ok-sample_index.ensures) (got c.in_ok-id.ensures) (search rules)
