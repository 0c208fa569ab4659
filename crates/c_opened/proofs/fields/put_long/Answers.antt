use Rattle.c_opened.proofs.LongLaws.{halves-put}
use Rattle.c_opened.proofs.fields.put_long.Goals as goal

pub returns : goal.returns
returns c = halves-put _ _ _ c.put_u32.ensures c.put_u32-2.ensures
