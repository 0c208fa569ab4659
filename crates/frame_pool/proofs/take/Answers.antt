use native.Mathlib.Omega.{arith}
use Rattle.std.proofs.Common.{◌<◌}
use Rattle.frame_pool.proofs.PoolLaws.{highest-below, refused_by, served_by}
use borrow.Author.Rules.{rules}
use Rattle.frame_pool.proofs.take.Goals as goal

pub returns-then-not-outnumber : goal.returns-then-not-outnumber
returns-then-not-outnumber c = search (refused_by, rules)

pub bounds-marks-frame : goal.bounds-marks-frame
bounds-marks-frame c = rw c.highest_free-frame.ensures (highest-below 16 _ (omega arith))

pub returns : goal.returns
returns c = search (served_by, rules)

pub offset_bounds-marks-frame : goal.offset_bounds-marks-frame
offset_bounds-marks-frame c =
    let h : c.highest_free-frame.result < 16 = rw c.highest_free-frame.ensures (highest-below 16 _ (omega arith)) in
    search rules
