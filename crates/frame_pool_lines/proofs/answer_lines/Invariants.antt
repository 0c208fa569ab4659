use Prim.Native.Nat.{◌-◌}
use lib.ListN.{length}
use Rattle.frame_pool_lines.proofs.AnswerLaws.{Answering}
use Rattle.frame_pool_lines.proofs.answer_lines.Given as goal

abbrev pub invariant-loop-at : goal.invariant-loop-at
invariant-loop-at l =
    Answering l.initial.progress l.text l.initial.out l.out l.progress l.length l.at

abbrev pub decreases-loop-at : goal.decreases-loop-at
decreases-loop-at l =
    lib.ListN.length l.text - l.at
