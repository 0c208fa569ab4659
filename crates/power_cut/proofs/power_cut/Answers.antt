use Rattle.power_cut.proofs.Whole.{power_cut}
use Rattle.power_cut.proofs.power_cut.Goals as goal

pub returns : goal.returns
returns c = power_cut
