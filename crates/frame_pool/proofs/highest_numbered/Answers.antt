use Rattle.frame_pool.proofs.ListLaws.{highest}
use Rattle.frame_pool.proofs.highest_numbered.Goals as goal

pub returns : goal.returns
returns c = highest
