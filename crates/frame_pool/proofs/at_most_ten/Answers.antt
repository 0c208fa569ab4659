use Rattle.frame_pool.proofs.ListLaws.{most}
use Rattle.frame_pool.proofs.at_most_ten.Goals as goal

pub returns : goal.returns
returns c = most
