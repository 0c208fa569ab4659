use Prim.Native.Nat.{◌+◌, ◌≤◌}
use lib.ListN.{length}
use native.Mathlib.Omega.{arith}
use Rattle.layout.proofs.FieldLaws.{passed, failed}
use Rattle.cut_write_log.proofs.WriteLogLaws.{three_logged, first_logged}
use Rattle.cut_write_log.proofs.log_three.Goals as goal
use Rattle.cut_write_log.proofs.log_three.Goals.{Then-inside}

two-room : (c : Then-inside) → c.args.start.length + c.args.rest.length ≤ length
    c.args.lent.now
two-room c = passed c.inside.ensures c.if-inside.true

pub overflow_add-end : goal.overflow_add-end
overflow_add-end c = let h = two-room (goal.at.overflow_add-end c).Then-inside in omega arith

pub returns-then-inside : goal.returns-then-inside
returns-then-inside c = three_logged _ _ _ _ _ c.log_write-one.ensures
    c.log_write-two.ensures c.log_write.ensures

pub returns : goal.returns
returns c = first_logged _ _ _ _ _ (failed c.inside.ensures c.if-inside.false) c.log_write-2.ensures
