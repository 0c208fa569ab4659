use Rattle.power_cut.proofs.Whole.{power_cut}
use Rattle.power_cut.proofs.ConsequenceLaws.{same_length, before-begin, not_finished, write_to_come, no_other_answer}
use Rattle.power_cut.proofs.after_any_cut.Goals as goal

pub returns : goal.returns
returns c = record {
  same_length = same_length power_cut;
  before_begin = before-begin power_cut;
  not_finished = not_finished power_cut;
  write_to_come = write_to_come power_cut;
  no_other_answer = no_other_answer power_cut;
}
