use Rattle.c_record.proofs.ReadingLaws.{Cues}
use Rattle.c_record.proofs.cues_in.Given as goal

abbrev pub invariant-loop-i : goal.invariant-loop-i
invariant-loop-i l =
    Cues l.s l.n l.at l.cue-items l.i
