use Rattle.c_record_put.proofs.NumberLaws.{places_put}
use Rattle.c_record_put.proofs.numbers.put_places.Goals as goal

pub returns : goal.returns
returns c =
    places_put _ _ _ _ c.args.f.setup.slot c.args.f.setup.channels c.args.f.count c.args.f.stream.next c.requires
    c.put_long.ensures
    c.put_long-2.ensures c.put_long-3.ensures
    c.put_long-4.ensures
