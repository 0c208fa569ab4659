use Rattle.std.proofs.Common.{◌≤◌}
use Rattle.frame_pool_counts.proofs.plain.count.Given as goal

abbrev pub invariant-loop-i : goal.invariant-loop-i
invariant-loop-i l = l.n ≤ l.i
