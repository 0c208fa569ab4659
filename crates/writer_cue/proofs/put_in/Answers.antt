use Rattle.std.proofs.Common.{arith}
use Rattle.writer_cue.proofs.CueTableLaws.{put_in_place}
use Rattle.writer_cue.proofs.put_in.Goals as goal

pub returns : goal.returns
returns c = put_in_place c.args.i c.args.n c.args.t c.args.c c.copy_within.ensures.after (omega arith) (omega arith)
