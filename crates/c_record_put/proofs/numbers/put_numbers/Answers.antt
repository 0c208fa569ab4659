use Rattle.c_record_put.proofs.NumberLaws.{numbers_put}
use Rattle.c_record_put.proofs.numbers.put_numbers.Goals as goal

pub returns : goal.returns
returns c = numbers_put _ _ _ c.args.f
    c.requires
    c.put_places.ensures c.put_sums.ensures
    c.put_marks.ensures
