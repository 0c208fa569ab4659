use Rattle.std.proofs.Common.{◌≤◌, ◌-◌, length}
use Rattle.decode_print.proofs.print_samples.Given as goal

abbrev pub invariant-loop-at : goal.invariant-loop-at
invariant-loop-at g l = l.at ≤ length l.samples

abbrev pub decreases-loop-at : goal.decreases-loop-at
decreases-loop-at g l = length l.samples - l.at
