use Rattle.std.proofs.Common.{sym, ◌∙◌}
use Rattle.power_cut_moments.proofs.MomentLaws.{next_past, next_part, next_more}
use Rattle.power_cut_moments.proofs.next_first.Goals as goal

pub returns-then-left-part : goal.returns-then-left-part
returns-then-left-part c =
    c.reach_next.ensures
    ∙ rw (c.loop-place.invariant.0) (next_part _ _ _ _ _ _ c.loop-place-test.true c.parted.ensures.part c.parted.ensures.rest c.if-left-part.true
    ∙ c.loop-place.invariant.1)

pub loop-place-preserved : goal.loop-place-preserved
loop-place-preserved c = (
  c.loop-place.invariant.0,
  next_more _ _ _ _ _ _ c.loop-place-test.true c.parted.ensures.part c.parted.ensures.rest c.if-left-part.false
      ∙ c.loop-place.invariant.1,
)

pub returns : goal.returns
returns c = c.loop-place.invariant.0 ∙ sym (next_past _ _ _ _ _ c.loop-place-test.false) ∙ c.loop-place.invariant.1
