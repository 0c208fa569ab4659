use Rattle.std.proofs.Common.{◌≡◌, ℕ, ◌+◌, ◌-◌, ◌<◌, ◌≤◌, List, [], length, take, drop, arith}
use borrow.Author.Tests.{le-leb, lt-leb}
use Rattle.replay_input.specs.Parts.{part_at}
use Rattle.layout.proofs.FieldLaws.{passed, failed}
use Rattle.replay_input.proofs.part.Goals as goal

part-there : (s : List ℕ) (at n : ℕ) → at + n ≤ length s → take (at + n - at) (drop at s) ≡ part_at s at n
unfolding part_at
part-there s at n h = let e : at + n - at ≡ n = omega arith in rw (le-leb (at + n) (length s) h, e)

part-missing : (s : List ℕ) (at n : ℕ) → length s < at + n → [] ≡ part_at s at n
unfolding part_at
part-missing s at n h = rw (lt-leb (at + n) (length s) h)

pub returns-then-inside : goal.returns-then-inside
returns-then-inside c = part-there _ _ _ (passed c.inside.ensures c.if-inside.true)

pub returns-else-inside : goal.returns-else-inside
returns-else-inside c = part-missing _ _ _ (failed c.inside.ensures c.if-inside.false)
