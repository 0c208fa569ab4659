use Rattle.decode_print.proofs.HearingLaws.{room_for_each}
use Rattle.decode_print.proofs.room_for_each.Goals as goal

pub returns : goal.returns
returns c = room_for_each
