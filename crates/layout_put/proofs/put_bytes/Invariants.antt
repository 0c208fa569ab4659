use lib.ListN.{length}
use Rattle.layout.proofs.PutLaws.{Putting}
use Rattle.layout_put.proofs.put_bytes.Given as goal

abbrev pub invariant-loop-j : goal.invariant-loop-j
invariant-loop-j l = Putting l.initial.buf l.at l.src (length l.src) l.buf l.j
