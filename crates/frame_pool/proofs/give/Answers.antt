use Rattle.std.proofs.Common.{◌<◌}
use Rattle.frame_pool.proofs.PoolLaws.{not_held, held-inside, given_back}
use borrow.Author.Rules.{rules}
use Rattle.frame_pool.proofs.give.Goals as goal

pub returns-then-not-holds : goal.returns-then-not-holds
returns-then-not-holds c = search (not_held, rules)

pub bounds-marks-frame : goal.bounds-marks-frame
bounds-marks-frame c = search (held-inside, rules)

pub returns : goal.returns
returns c = search (given_back, rules)

pub offset_bounds-marks-frame : goal.offset_bounds-marks-frame
offset_bounds-marks-frame c = let h : c.args.frame < 16 = search (held-inside, rules) in search rules
