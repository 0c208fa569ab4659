use Rattle.writer.specs.WritesAndCuttingRule.{handed}
use Rattle.writer.proofs.GoodLaws.{begin_good}
use Rattle.writer.proofs.BeginLaws.{begin_refused, begin_accepted, cleared, some_room}
use Rattle.writer.proofs.begin.Goals as goal

pub returns-in-Err-clause-value : goal.returns-in-Err-clause-value
returns-in-Err-clause-value c =
    let a = c.args in
    rw (begin_refused a.slot a.channels a.mode a.lent.now c.in-Err.refusal c.in-Err.ensures, c.blank.ensures)

pub returns-in-Err-clause-lent_after : goal.returns-in-Err-clause-lent_after
returns-in-Err-clause-lent_after c =
    let a = c.args in
    rw (begin_refused a.slot a.channels a.mode a.lent.now c.in-Err.refusal c.in-Err.ensures)

pub bounds-lent-0 : goal.bounds-lent-0
bounds-lent-0 c = let a = c.args in some_room a.slot a.channels a.lent.now c.in_default.ensures

pub returns-clause-value : goal.returns-clause-value
returns-clause-value c =
    let a = c.args in
    rw (begin_accepted a.slot a.channels a.mode a.lent.now c.in_default.ensures, c.empty.ensures)

pub returns-clause-lent_after : goal.returns-clause-lent_after
unfolding handed
returns-clause-lent_after c =
    let a = c.args in
    rw (begin_accepted a.slot a.channels a.mode a.lent.now c.in_default.ensures, cleared a.lent.now (some_room a.slot a.channels a.lent.now c.in_default.ensures))

pub returns-clause-good : goal.returns-clause-good
returns-clause-good c =
    let a = c.args in
    rw c.empty.ensures (rw (begin_accepted a.slot a.channels a.mode a.lent.now c.in_default.ensures) at (begin_good a.slot a.channels a.mode a.lent.now))
