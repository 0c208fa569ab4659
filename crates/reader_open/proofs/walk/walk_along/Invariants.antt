use Prim.Native.Nat.{ℕ, ◌-◌, ◌≤◌, ◌<◌}
use lib.ListN.{length, get_or}
use Rattle.reader_open.proofs.WalkLaws.{Walking}
use Rattle.reader_open.proofs.walk.walk_along.Given as goal

abbrev pub invariant-walk : goal.invariant-walk
invariant-walk l = record {
  walking : Walking l.s l.initial.offsets l.offsets l.count l.current;
  below : (k : ℕ) → k < l.count → get_or l.offsets k 0 ≤ l.highest;
}

abbrev pub decreases-walk : goal.decreases-walk
decreases-walk l = length l.offsets - l.count
