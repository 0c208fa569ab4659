use borrow.Author.Rules.{rules}
use native.Mathlib.Omega.{arith}
use Rattle.layout.proofs.FieldLaws.{got, missed, passed, failed}
use Rattle.layout_read.proofs.ReadLaws.{header_out, cues_out, header_of_fields}
use Rattle.layout_read.proofs.block.read_header.Goals as goal

pub returns-in_err-size : goal.returns-in_err-size
returns-in_err-size c = header_out _ _ _ _ c.from_residual.ensures.1 (missed c.in_err-size.ensures) (omega arith)

pub returns-in_err-end_address : goal.returns-in_err-end_address
returns-in_err-end_address c = header_out _ _ _ _ c.from_residual-in_err-end_address.ensures.1 (missed c.in_err-end_address.ensures) (omega arith)

pub returns-in_err-next_offset : goal.returns-in_err-next_offset
returns-in_err-next_offset c = header_out _ _ _ _ c.from_residual-in_err-next_offset.ensures.1 (missed c.in_err-next_offset.ensures) (omega arith)

pub returns-in_err-left_scale : goal.returns-in_err-left_scale
returns-in_err-left_scale c = header_out _ _ _ _ c.from_residual-in_err-left_scale.ensures.1 (missed c.in_err-left_scale.ensures) (omega arith)

pub returns-in_err-left_last : goal.returns-in_err-left_last
returns-in_err-left_last c = header_out _ _ _ _ c.from_residual-in_err-left_last.ensures.1 (missed c.in_err-left_last.ensures) (omega arith)

pub returns-in_err-left_oldest : goal.returns-in_err-left_oldest
returns-in_err-left_oldest c = header_out _ _ _ _ c.from_residual-in_err-left_oldest.ensures.1 (missed c.in_err-left_oldest.ensures) (omega arith)

pub returns-in_err-right_scale : goal.returns-in_err-right_scale
returns-in_err-right_scale c = header_out _ _ _ _ c.from_residual-in_err-right_scale.ensures.1 (missed c.in_err-right_scale.ensures) (omega arith)

pub returns-in_err-right_last : goal.returns-in_err-right_last
returns-in_err-right_last c = header_out _ _ _ _ c.from_residual-in_err-right_last.ensures.1 (missed c.in_err-right_last.ensures) (omega arith)

pub returns-in_err-right_oldest : goal.returns-in_err-right_oldest
returns-in_err-right_oldest c = header_out _ _ _ _ c.from_residual-in_err-right_oldest.ensures.1 (missed c.in_err-right_oldest.ensures) (omega arith)

pub returns-in_err-count : goal.returns-in_err-count
returns-in_err-count c = header_out _ _ _ _ c.from_residual-in_err-count.ensures.1 (missed c.in_err-count.ensures) (omega arith)

pub returns-then-inside : goal.returns-then-inside
returns-then-inside c =
    header_of_fields _ _ (got c.in_ok-count.ensures) (got c.in_ok-size.ensures) (got c.in_ok-end_address.ensures) (got c.in_ok-next_offset.ensures)
    (got c.in_ok-left_scale.ensures) (got c.in_ok-left_last.ensures) (got c.in_ok-left_oldest.ensures)
    (got c.in_ok-right_scale.ensures) (got c.in_ok-right_last.ensures) (got c.in_ok-right_oldest.ensures)
    (search rules) (search rules) (search rules) (search rules) (omega (arith, passed c.inside.ensures c.if-inside.true, c.div_ceil.ensures))

pub returns-else-inside : goal.returns-else-inside
returns-else-inside c = cues_out _ _ (got c.in_ok-count.ensures) (omega (arith, failed c.inside.ensures c.if-inside.false, c.div_ceil.ensures))
