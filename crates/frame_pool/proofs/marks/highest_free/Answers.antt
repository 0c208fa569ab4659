use Rattle.std.proofs.Common.{rules}
use Rattle.frame_pool.proofs.PoolLaws.{last_free}
use Rattle.frame_pool.proofs.marks.highest_free.Goals as goal

pub returns : goal.returns
returns c = rw c.unwrap_or.ensures (search (last_free, rules))
