use Rattle.std.proofs.Common.{◌-◌, length}
use Rattle.key_listing.proofs.LineLaws.{Filling}
use Rattle.key_listing.proofs.listing.fill.Given as goal

abbrev pub invariant-loop-line : goal.invariant-loop-line
invariant-loop-line l =
    Filling l.s l.r l.initial.stage l.initial.out l.out l.stage l.length

abbrev pub decreases-loop-line : goal.decreases-loop-line
decreases-loop-line l =
    length l.initial.out - l.length
