use Rattle.power_cut.proofs.Whole.{finished-file, estimate}
use Rattle.power_cut_cases.proofs.UsedLaws.{worked_slot, stereo_slot, worked_estimate, stereo_estimate}
use Rattle.power_cut_cases.proofs.used_on_lists.Goals as goal

pub returns : goal.returns
returns c = record {
  worked_slot = worked_slot finished-file;
  stereo_slot = stereo_slot finished-file;
  worked_estimate = worked_estimate estimate;
  stereo_estimate = stereo_estimate estimate;
}
