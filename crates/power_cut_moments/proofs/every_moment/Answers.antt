use Rattle.power_cut_moments.proofs.EveryLaws.{every_moment}
use Rattle.power_cut_moments.proofs.every_moment.Goals as goal

pub returns : goal.returns
returns c = every_moment
