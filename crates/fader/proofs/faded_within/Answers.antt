use Rattle.fader.specs.Fader.{curve_entry}
use Rattle.fader.proofs.CurveLaws.{entry_bound}
use Rattle.fader.proofs.FadeLaws.{faded_from, highest, lowest}
use Rattle.fader.proofs.faded_within.Goals as goal

pub returns : goal.returns
unfolding curve_entry
returns c = record { within = λ x f level h. faded_from x _ f (entry_bound level h); highest = highest; lowest = lowest }
