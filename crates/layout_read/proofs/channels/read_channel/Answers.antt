use native.Mathlib.Omega.{arith}
use Rattle.layout.proofs.FieldLaws.{got, missed}
use Rattle.layout_read.proofs.ChannelLaws.{channel_short, channel_unknown, rest_out, rest-made}
use Rattle.layout_read.proofs.channels.read_channel.Goals as goal

pub returns-in_err-looping : goal.returns-in_err-looping
returns-in_err-looping c = channel_short _ _ _ _ c.from_residual.ensures.1 (missed c.in_err-looping.ensures) (omega arith)

pub overflow_add-at : goal.overflow_add-at
overflow_add-at c = let g = got c.in_ok-looping.ensures in omega (arith, g.inside)

pub returns-in_err-number : goal.returns-in_err-number
returns-in_err-number c = channel_short _ _ _ _ c.from_residual-in_err-number.ensures.1 (missed c.in_err-number.ensures) (omega arith)

pub returns-in_err-format : goal.returns-in_err-format
returns-in_err-format c = channel_unknown _ _ (got c.in_ok-number.ensures) _ _ c.from_residual-in_err-format.ensures.1 c.in_err-format.ensures

pub overflow_add-at-2 : goal.overflow_add-at-2
overflow_add-at-2 c = let g = got c.in_ok-number.ensures in omega (arith, g.inside)

pub returns-in_err-loop_address : goal.returns-in_err-loop_address
returns-in_err-loop_address c =
    rest_out _ _ (got c.in_ok-number.ensures) c.in_ok-format.ensures _ _ c.from_residual-in_err-loop_address.ensures.1 (missed c.in_err-loop_address.ensures) (omega arith)

pub overflow_add-at-3 : goal.overflow_add-at-3
overflow_add-at-3 c = let g = got c.in_ok-loop_address.ensures in omega (arith, g.inside)

pub returns-in_err-end_address : goal.returns-in_err-end_address
returns-in_err-end_address c =
    rest_out _ _ (got c.in_ok-number.ensures) c.in_ok-format.ensures _ _ c.from_residual-in_err-end_address.ensures.1 (missed c.in_err-end_address.ensures) (omega arith)

pub overflow_add-at-4 : goal.overflow_add-at-4
overflow_add-at-4 c = let g = got c.in_ok-end_address.ensures in omega (arith, g.inside)

pub returns-in_err-current_address : goal.returns-in_err-current_address
returns-in_err-current_address c =
    rest_out _ _ (got c.in_ok-number.ensures) c.in_ok-format.ensures _ _ c.from_residual-in_err-current_address.ensures.1 (missed c.in_err-current_address.ensures) (omega arith)

pub overflow_add-at-5 : goal.overflow_add-at-5
overflow_add-at-5 c = let g = got c.in_ok-current_address.ensures in omega (arith, g.inside)

pub returns-in_err-coefficients : goal.returns-in_err-coefficients
returns-in_err-coefficients c =
    rest_out _ _ (got c.in_ok-number.ensures) c.in_ok-format.ensures _ _ c.from_residual-in_err-coefficients.ensures.1 (missed c.in_err-coefficients.ensures) (omega arith)

pub overflow_add-at-6 : goal.overflow_add-at-6
overflow_add-at-6 c = let g = got c.in_ok-coefficients.ensures in omega (arith, g.inside)

pub returns-in_err-gain : goal.returns-in_err-gain
returns-in_err-gain c =
    rest_out _ _ (got c.in_ok-number.ensures) c.in_ok-format.ensures _ _ c.from_residual-in_err-gain.ensures.1 (missed c.in_err-gain.ensures) (omega arith)

pub overflow_add-at-7 : goal.overflow_add-at-7
overflow_add-at-7 c = let g = got c.in_ok-gain.ensures in omega (arith, g.inside)

pub returns-in_err-context : goal.returns-in_err-context
returns-in_err-context c =
    rest_out _ _ (got c.in_ok-number.ensures) c.in_ok-format.ensures _ _ c.from_residual-in_err-context.ensures.1 (missed c.in_err-context.ensures) (omega arith)

pub returns : goal.returns
returns c =
    rest-made _ _ (got c.in_ok-number.ensures) c.in_ok-format.ensures (got c.in_ok-looping.ensures) (got c.in_ok-loop_address.ensures)
    (got c.in_ok-end_address.ensures) (got c.in_ok-current_address.ensures) (got c.in_ok-coefficients.ensures) (got c.in_ok-gain.ensures) (got c.in_ok-context.ensures)
