use Prim.Native.Nat.{◌-◌}
use lib.ListN.{length}
use Rattle.script_groups.proofs.OrderLaws.{Seeking}
use Rattle.script_groups.proofs.said_from.Given as goal

abbrev pub invariant-loop-at : goal.invariant-loop-at
invariant-loop-at l =
    Seeking l.s l.from l.at

abbrev pub decreases-loop-at : goal.decreases-loop-at
decreases-loop-at l =
    length l.s - l.at
