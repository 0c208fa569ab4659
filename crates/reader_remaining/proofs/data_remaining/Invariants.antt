use Rattle.reader_remaining.proofs.RemainingLaws.{Summing}
use Rattle.reader_remaining.proofs.data_remaining.Given as goal

abbrev pub invariant-loop-offset : goal.invariant-loop-offset
invariant-loop-offset l = Summing l.s l.offsets l.offset-index l.sum
