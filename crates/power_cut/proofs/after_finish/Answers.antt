use Rattle.power_cut.proofs.Whole.{power_cut}
use Rattle.power_cut.proofs.ConsequenceLaws.{finished-opens, each_block_back, no_block-back, each_remaining, each_cue_back, cues_end}
use Rattle.power_cut.proofs.after_finish.Goals as goal

pub returns : goal.returns
returns c = record {
  finished_opens = finished-opens power_cut;
  each_block_back = each_block_back power_cut;
  no_block_back = no_block-back power_cut;
  each_remaining = each_remaining power_cut;
  each_cue_back = each_cue_back power_cut;
  cues_end = cues_end power_cut;
}
