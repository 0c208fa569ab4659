use Rattle.decode_print.proofs.HearingLaws.{heard-long}
use Rattle.decode_print.proofs.print_long.Goals as goal

pub returns : goal.returns
returns g c = heard-long c.in_ok-h.ensures c.long_room-samples.ensures
