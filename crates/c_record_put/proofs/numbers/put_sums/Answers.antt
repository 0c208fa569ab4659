use Rattle.c_record_put.proofs.NumberLaws.{sums_put}
use Rattle.c_record_put.proofs.numbers.put_sums.Goals as goal

pub returns : goal.returns
returns c =
    sums_put _ _ _ _ c.args.s.base c.args.s.offset c.args.s.blocks c.args.s.sum c.requires
    c.put_long.ensures
    c.put_long-2.ensures c.put_long-3.ensures
    c.put_long-4.ensures
