use Rattle.writer_assign_cues.proofs.PointLaws.{Points}
use Rattle.writer_assign_cues.proofs.put_points.Given as goal

abbrev pub invariant-loop-k : goal.invariant-loop-k
invariant-loop-k l =
    Points l.initial.buf l.at l.base l.id l.cues l.from l.to l.buf l.p l.n l.k
