use Rattle.std.proofs.Common.{arith, sym, ◌∙◌}
use Rattle.decode_print.proofs.HearingLaws.{heard_short}
use Rattle.decode_print.proofs.+print_rest.Goals as goal

pub returns : goal.returns
returns g t c =
    heard_short c.in_ok-h.ensures (omega (arith, c.pushed_room-samples.ensures)) (sym c.is_short.ensures ∙ c.if-is_short.false)
