use lib.ListN.{length-replicate}
use lib.IntN.{pos}
use Rattle.decode_print.specs.Hearing.{most_samples}
use Rattle.decode_print.proofs.long_room.Goals as goal

pub returns : goal.returns
returns c = length-replicate most_samples (pos 0)
