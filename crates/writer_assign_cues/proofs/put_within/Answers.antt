use native.Mathlib.Omega.{arith}
use Rattle.writer_assign_cues.proofs.PointLaws.{fill_place, points-room, taken_put}
use borrow.Author.Rules.{rules}
use Rattle.writer_assign_cues.proofs.put_within.Goals as goal

pub put_points-requires : goal.put_points-requires
put_points-requires c =
    let a = c.args in
    let t = c.requires.taking in
    record {
      from_le_to = (t.above, c.requires.to_le_cue_limit);
      cues_in_bounds = points-room a.buf.now a.at a.base a.id a.points _ t.counted c.requires.points_in_bounds;
    }

pub overflow_mul-points : goal.overflow_mul-points
overflow_mul-points c = omega (arith, fill_place c.args.at c.args.points _ c.requires.points_in_bounds)

pub overflow_add-at : goal.overflow_add-at
overflow_add-at c = omega (arith, fill_place c.args.at c.args.points _ c.requires.points_in_bounds)

pub returns : goal.returns
returns c = search (taken_put, rules)
