use Prim.Native.Nat.{◌+◌, ◌≤◌}
use native.Mathlib.Omega.{arith}
use lib.ListN.{length}
use Rattle.layout.proofs.FieldLaws.{passed, failed}
use Rattle.cut_write_log.proofs.WriteLogLaws.{is_logged, log_full, not_lent, bytes_full}
use Rattle.cut_write_log.proofs.log_write.Goals as goal
use Rattle.cut_write_log.proofs.log_write.Goals.{Then-inside-2}

lent-room : (c : Then-inside-2) → c.args.from + c.args.place.length ≤ length c.args.lent.now
lent-room c = passed c.inside.ensures c.if-inside.true

logged-room : (c : Then-inside-2) → c.args.j.total + c.args.place.length ≤ length c.args.logged.now
logged-room c = passed c.inside-then-inside.ensures c.if-inside-2.true

pub overflow_add-end : goal.overflow_add-end
overflow_add-end c = let h = lent-room (goal.at.overflow_add-end c).Then-inside-2 in omega arith

pub slice_bounds-put_bytes-end : goal.slice_bounds-put_bytes-end
slice_bounds-put_bytes-end c = let h = lent-room (goal.at.slice_bounds-put_bytes-end c).Then-inside-2 in omega arith

pub overflow_add-result-then-inside-2 : goal.overflow_add-result-then-inside-2
overflow_add-result-then-inside-2 c = let h = logged-room (goal.at.overflow_add-result-then-inside-2 c).Then-inside-2 in omega arith

pub returns-then-inside-2 : goal.returns-then-inside-2
returns-then-inside-2 c =
    let few = c.if-i-lt-MOST_WRITES.true in
    let here = lent-room (goal.at.returns-then-inside-2 c).Then-inside-2 in
    let room = logged-room (goal.at.returns-then-inside-2 c).Then-inside-2 in
    is_logged _ _ _ _ few here room c.put_bytes.ensures

pub returns-else-inside-2 : goal.returns-else-inside-2
returns-else-inside-2 c = bytes_full _ _ _ _ (failed c.inside-then-inside.ensures c.if-inside-2.false)

pub returns-else-inside : goal.returns-else-inside
returns-else-inside c = not_lent _ _ _ _ (failed c.inside.ensures c.if-inside.false)

pub returns-else-i-lt-MOST_WRITES : goal.returns-else-i-lt-MOST_WRITES
returns-else-i-lt-MOST_WRITES c = log_full _ _ _ _ c.if-i-lt-MOST_WRITES.false
