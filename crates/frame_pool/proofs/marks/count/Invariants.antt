use Rattle.std.proofs.Common.{◌≡◌, ◌≤◌}
use Rattle.frame_pool.specs.FramePool.{count_marked}
use Rattle.frame_pool.proofs.marks.count.Given as goal

abbrev pub invariant-loop-i : goal.invariant-loop-i
invariant-loop-i l = (l.n ≡ count_marked l.i l.fn.mark l.marks) × (l.n ≤ l.i)
