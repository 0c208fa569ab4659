use Prim.Native.Nat.{◌+◌, ◌≤◌}
use mathlib.Core.Path.{sym}
use native.Mathlib.Omega.{arith}
use lib.ListN.{length}
use Rattle.layout.proofs.FieldLaws.{passed, failed}
use Rattle.layout_number_or_zero.proofs.NumberLaws.{long_in, long_out}
use Rattle.layout_number_or_zero.proofs.long.Goals as goal
use Rattle.layout_number_or_zero.proofs.long.Goals.{Then-inside}

room : (c : Then-inside) → c.args.at + 8 ≤ length c.args.s.now
room c = passed c.inside.ensures c.if-inside.true

pub overflow_add-at : goal.overflow_add-at
overflow_add-at c = let h = room (goal.at.overflow_add-at c).Then-inside in omega arith

pub returns-then-inside : goal.returns-then-inside
returns-then-inside c = rw (c.word.ensures, c.word-then-inside.ensures) (sym (long_in _ _ (room (goal.at.returns-then-inside c).Then-inside)))

pub returns : goal.returns
returns c = sym (long_out _ _ (failed c.inside.ensures c.if-inside.false))
