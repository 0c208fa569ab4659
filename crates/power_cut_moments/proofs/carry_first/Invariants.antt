use Rattle.std.proofs.Common.{◌≡◌, drop}
use Rattle.writer.specs.WritesAndCuttingRule.{writes_in}
use Rattle.power_cut_moments.specs.Moments.{slot_at}
use Rattle.power_cut_moments.proofs.carry_first.Given as goal

abbrev pub invariant-loop-place : goal.invariant-loop-place
invariant-loop-place l =
    slot_at l.slot (writes_in (drop l.place-index l.places) l.rest) l.left ≡ slot_at l.initial.slot (writes_in l.places l.bytes) l.moment
