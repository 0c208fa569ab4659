use Rattle.std.proofs.Common.{sym}
use Rattle.reader.proofs.OpenedLaws.{opened_readable}
use Rattle.decode_print.proofs.HearingLaws.{before-first, none_of}
use Rattle.decode_print.proofs.print_channel.Goals as goal

pub print_rest-requires : goal.print_rest-requires
print_rest-requires g c =
    let s = c.args.s.now in
    let o = sym c.in-Ok.ensures.value in
    let e = opened_readable s _ o in
    (e, rw c.new_decoder.ensures (before-first s _ _ o e))

pub returns-in-Err : goal.returns-in-Err
returns-in-Err g c = none_of c.args.s.now _ _ c.in-Err.ensures.value
