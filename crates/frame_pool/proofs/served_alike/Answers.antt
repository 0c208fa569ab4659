use Rattle.frame_pool.proofs.ListLaws.{alike}
use Rattle.frame_pool.proofs.served_alike.Goals as goal

pub returns : goal.returns
returns c = alike
