use Rattle.writer_assign_cues.proofs.PointLaws.{point-put}
use Rattle.writer_assign_cues.proofs.put_point.Goals as goal

pub returns : goal.returns
returns c = search point-put
