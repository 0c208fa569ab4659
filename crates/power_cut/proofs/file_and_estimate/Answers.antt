use Rattle.power_cut.proofs.Whole.{finished-file, estimate}
use Rattle.power_cut.proofs.ConsequenceLaws.{each_byte, estimate_enough}
use Rattle.power_cut.proofs.file_and_estimate.Goals as goal

pub returns : goal.returns
returns c = record {
  each_byte = each_byte finished-file;
  estimate_enough = estimate_enough estimate;
}
