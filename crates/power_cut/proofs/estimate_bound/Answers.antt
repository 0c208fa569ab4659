use Rattle.power_cut.proofs.Whole.{estimate}
use Rattle.power_cut.proofs.estimate_bound.Goals as goal

pub returns : goal.returns
returns c = estimate
