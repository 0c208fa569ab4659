use Rattle.c_opened.proofs.KeptReads.{OffsetsRead}
use Rattle.c_opened.proofs.opened.offsets_in.Given as goal

abbrev pub invariant-loop-i : goal.invariant-loop-i
invariant-loop-i l =
    OffsetsRead l.kept l.from l.to l.offsets l.i
