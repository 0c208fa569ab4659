use Rattle.c_record_put.proofs.TableLaws.{Entries}
use Rattle.c_record_put.proofs.table.put_cues.Given as goal

abbrev pub invariant-loop-i : goal.invariant-loop-i
invariant-loop-i l =
    Entries l.initial.buf l.at l.cues l.buf l.i
