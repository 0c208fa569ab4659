use Rattle.power_cut_moments.proofs.EveryLaws.{at_moments}
use Rattle.power_cut_moments.proofs.power_cut_at_moments.Goals as goal

pub returns : goal.returns
returns c = at_moments
