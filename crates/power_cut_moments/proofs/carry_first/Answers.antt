use Rattle.std.proofs.Common.{sym, ◌∙◌}
use Rattle.power_cut_moments.proofs.MomentLaws.{slot_past, slot_part, slot_more}
use Rattle.power_cut_moments.proofs.carry_first.Goals as goal

pub returns-then-left-part : goal.returns-then-left-part
returns-then-left-part c =
    c.reach.ensures
    ∙ slot_part _ _ _ _ _ _ c.loop-place-test.true c.parted.ensures.part c.parted.ensures.rest c.if-left-part.true
    ∙ c.loop-place.invariant

pub loop-place-preserved : goal.loop-place-preserved
loop-place-preserved c =
    rw c.reach-in-loop-place.ensures
    (slot_more _ _ _ _ _ _ c.loop-place-test.true c.parted.ensures.part c.parted.ensures.rest c.if-left-part.false)
    ∙ c.loop-place.invariant

pub returns : goal.returns
returns c = sym (slot_past _ _ _ _ _ c.loop-place-test.false) ∙ c.loop-place.invariant
