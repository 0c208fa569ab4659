use Rattle.power_cut_script.proofs.CutLaws.{cut_script}
use Rattle.power_cut_script.proofs.script_cut.Goals as goal

pub returns : goal.returns
returns c = cut_script
