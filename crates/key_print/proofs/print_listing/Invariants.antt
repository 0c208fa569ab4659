use Rattle.std.proofs.Common.{◌≡◌, ◌≤◌, length, drop}
use Rattle.key_listing.specs.MarkingKey.{listing, listing_from, listing_lines, lines_from}
use Rattle.key_print.proofs.print_listing.Given as goal

abbrev pub invariant-loop-start : goal.invariant-loop-start
invariant-loop-start g l =
    ((length l.out ≡ 65536) × (lines_from l.s l.start.reader l.initial.stage ≡ listing_lines l.s))
    × ((drop l.length (listing l.s) ≡ listing_from l.s l.start.reader l.stage) × (l.length ≤ length (listing l.s)))

abbrev pub decreases-loop-start : goal.decreases-loop-start
decreases-loop-start g l = length (listing_from l.s l.start.reader l.stage)
