use Rattle.power_cut.proofs.EmptyLaws.{empty_pushes, never_past_10, empty_pushes_absent, cut_as_if_absent}
use Rattle.power_cut.proofs.empty_pushes.Goals as goal

pub returns : goal.returns
returns c = record {
  empty_pushes = empty_pushes;
  never_past10 = never_past_10;
  empty_pushes_absent = empty_pushes_absent;
  cut_as_if_absent = cut_as_if_absent;
}
