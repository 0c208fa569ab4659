use Prim.Native.Nat.{◌-◌}
use lib.ListN.{length}
use Rattle.script_groups.proofs.OrderLaws.{Opens}
use Rattle.script_groups.proofs.start_of.Given as goal

abbrev pub invariant-loop-at : goal.invariant-loop-at
invariant-loop-at l =
    Opens l.s l.lent l.at l.length

abbrev pub decreases-loop-at : goal.decreases-loop-at
decreases-loop-at l =
    length l.s - l.at
