use Rattle.writer.proofs.AdmittedLaws.{typed_most, typed_least, cuts_of_two, any_tear}
use Rattle.writer.proofs.admitted.Goals as goal

pub returns : goal.returns
returns c = record {
  typed_at_the_most = typed_most;
  typed_at_the_least = typed_least;
  cuts_of_two = cuts_of_two;
  any_tear = any_tear;
}
