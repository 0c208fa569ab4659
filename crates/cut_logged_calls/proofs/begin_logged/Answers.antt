use Rattle.cut_logged_calls.proofs.TallyLaws.{lent_is, lent_length}
use Rattle.cut_logged_calls.proofs.begin_logged.Goals as goal

pub slice_bounds-begin_with-end : goal.slice_bounds-begin_with-end
slice_bounds-begin_with-end c = lent_length _ c.zeros-lent.ensures c.min-n.ensures

pub returns : goal.returns
returns c = rw (← lent_is _ c.zeros-lent.ensures c.min-n.ensures)
    c.begin_with.ensures
