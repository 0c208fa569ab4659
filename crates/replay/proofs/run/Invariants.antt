use Rattle.std.proofs.Common.{◌≤◌}
use Rattle.replay.proofs.run.Given as goal

abbrev pub invariant-loop-case : goal.invariant-loop-case
invariant-loop-case g l =
    (goal.iterator-loop-case g).can_next l.recorded × (goal.iterator-loop-case g).is_finite l.recorded × (l.others ≤ l.case)
