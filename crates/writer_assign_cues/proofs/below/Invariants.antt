use Rattle.writer_assign_cues.proofs.TakeLaws.{Below}
use Rattle.writer_assign_cues.proofs.below.Given as goal

abbrev pub invariant-loop-k : goal.invariant-loop-k
invariant-loop-k l =
    Below l.cues l.from l.count l.limit l.k
