use Rattle.power_cut.proofs.Whole.{power_cut}
use Rattle.power_cut.proofs.ConsequenceLaws.{most-channels, begins, begun_good, each_good, one_answer_each, each_answer, finished-length}
use Rattle.power_cut.proofs.every_call.Goals as goal

pub returns : goal.returns
returns c = record {
  most_channels = most-channels power_cut;
  begins = begins power_cut;
  begun_good = begun_good power_cut;
  each_good = each_good power_cut;
  one_answer_each = one_answer_each power_cut;
  each_answer = each_answer power_cut;
  finished_length = finished-length power_cut;
}
