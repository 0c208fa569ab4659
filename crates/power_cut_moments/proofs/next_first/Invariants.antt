use Rattle.std.proofs.Common.{◌≡◌, drop}
use Rattle.writer.specs.WritesAndCuttingRule.{writes_in}
use Rattle.power_cut_moments.specs.Moments.{next_byte}
use Rattle.power_cut_moments.proofs.next_first.Given as goal

abbrev pub invariant-loop-place : goal.invariant-loop-place
invariant-loop-place l =
    (l.slot ≡ l.initial.slot) × (next_byte l.initial.slot (writes_in (drop l.place-index l.places) l.rest) l.left ≡ next_byte l.initial.slot (writes_in l.places l.bytes) l.moment)
