use Rattle.frame_pool.proofs.ListLaws.{sixteen}
use Rattle.frame_pool.proofs.sixteen_frames.Goals as goal

pub returns : goal.returns
returns c = sixteen
