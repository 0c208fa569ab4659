use Rattle.frame_pool.proofs.ListLaws.{always}
use Rattle.frame_pool.proofs.always_served.Goals as goal

pub returns : goal.returns
returns c = always
