use Rattle.c_record.proofs.ReadingLaws.{Signed}
use Rattle.c_record.proofs.coefficients_in.Given as goal

abbrev pub invariant-loop-i : goal.invariant-loop-i
invariant-loop-i l =
    Signed l.s l.at l.coefficient-items l.i
