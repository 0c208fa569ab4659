use Rattle.writer_estimate.proofs.EstimateCodeLaws.{Summed}
use Rattle.writer_estimate.proofs.estimate.Given as goal

abbrev pub invariant-loop-n : goal.invariant-loop-n
invariant-loop-n l = Summed l.channels l.lengths l.sum l.n-index
