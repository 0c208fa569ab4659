use Rattle.writer_assign_cues.proofs.PointLaws.{points-start, points_skip, point-room, points-more, points_end}
use borrow.Author.Rules.{rules}
use Rattle.writer_assign_cues.proofs.put_points.Goals as goal

pub loop-k-init : goal.loop-k-init
loop-k-init c = search (points-start, rules)

pub loop-k-preserved-then-loops : goal.loop-k-preserved-then-loops
loop-k-preserved-then-loops c = search (points_skip, rules)

pub put_point-requires : goal.put_point-requires
put_point-requires c = search (point-room, rules)

pub loop-k-preserved : goal.loop-k-preserved
loop-k-preserved c = search (points-more, rules)

pub returns : goal.returns
returns c = search (points_end, rules)
