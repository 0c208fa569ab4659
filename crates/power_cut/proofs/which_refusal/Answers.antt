use Rattle.power_cut.proofs.WhichLaws.{which_refusal}
use Rattle.power_cut.proofs.which_refusal.Goals as goal

pub returns : goal.returns
returns c = which_refusal
