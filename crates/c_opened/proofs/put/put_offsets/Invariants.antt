use Rattle.c_opened.proofs.KeptPuts.{OffsetsPut}
use Rattle.c_opened.proofs.put.put_offsets.Given as goal

abbrev pub invariant-loop-i : goal.invariant-loop-i
invariant-loop-i l =
    OffsetsPut l.initial.kept l.offsets l.kept l.i
