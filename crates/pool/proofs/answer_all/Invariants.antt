use Rattle.std.proofs.Common.{◌≡◌, ◌<◌, length}
use Rattle.pool.proofs.answer_all.Given as goal

abbrev pub invariant-loop : goal.invariant-loop
invariant-loop g l = (length l.room ≡ 4096) × (l.held < 4096)
