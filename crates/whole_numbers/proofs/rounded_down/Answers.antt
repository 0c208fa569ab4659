use Rattle.whole_numbers.specs.Whole.{RoundedDown}
use Rattle.whole_numbers.proofs.FloorLaw.{floor_law}
use Rattle.whole_numbers.proofs.rounded_down.Goals as goal

pub returns : goal.returns
unfolding RoundedDown
returns c = floor_law
