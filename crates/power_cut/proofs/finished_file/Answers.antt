use Rattle.power_cut.proofs.Whole.{finished-file}
use Rattle.power_cut.proofs.finished_file.Goals as goal

pub returns : goal.returns
returns c = finished-file
