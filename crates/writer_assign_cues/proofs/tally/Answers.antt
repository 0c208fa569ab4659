use Rattle.writer_assign_cues.specs.Taking.{tallied}
use Rattle.writer_assign_cues.proofs.TakeLaws.{points_are, loop_is, part_is}
use Rattle.writer_assign_cues.proofs.tally.Goals as goal

pub returns : goal.returns
unfolding tallied
returns c = rw (c.points_in-points.ensures, c.has_loop-asked.ensures, points_are, loop_is, part_is c.args.cues c.args.from c.args.to c.requires.0)
