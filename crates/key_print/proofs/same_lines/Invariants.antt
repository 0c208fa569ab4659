use mathlib.Core.Path.{◌≡◌}
use lib.ListN.{length}
use Rattle.key_listing.specs.MarkingKey.{listing_from}
use Rattle.key_print.specs.Portions.{Held, still_listed}
use Rattle.key_print.proofs.PortionLaws.{Alike}
use Rattle.key_print.proofs.same_lines.Given as goal

abbrev pub invariant-loop-left : goal.invariant-loop-left
invariant-loop-left l =
    Alike (listing_from l.a l.r l.initial.left.stage) (listing_from l.b l.q l.initial.right.stage) (still_listed l.a l.r l.left l.out) (still_listed l.b l.q l.right l.other)
    × ((Held l.left l.out × Held l.right l.other) × ((length l.out ≡ 4096) × (length l.other ≡ 4096)))

abbrev pub decreases-loop-left : goal.decreases-loop-left
decreases-loop-left l =
    length (still_listed l.a l.r l.left l.out)
