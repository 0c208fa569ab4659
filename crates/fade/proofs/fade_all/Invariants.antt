use Rattle.std.proofs.Common.{◌≡◌, ◌≤◌, length}
use Rattle.fade.proofs.fade_all.Given as goal

abbrev pub invariant-loop : goal.invariant-loop
invariant-loop g l = (length l.room ≡ 65536) × (l.held ≤ 1)
