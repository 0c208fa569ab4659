use mathlib.Core.Path.{◌≡◌, sym}
use native.Mathlib.Omega.{arith}
use lib.ListN.{length}
use lib.Seq.{length-take-le}
use Rattle.cut_report.proofs.ThreeLaws.{not_whole, whole, whole_length}
use borrow.Author.Rules.{rules}
use Rattle.cut_report.proofs.print_line.Goals as goal
use Rattle.cut_report.proofs.print_line.Given.{Over}
use Rattle.cut_report.proofs.print_line.Goals.{Start}

room : (g : Over) (c : Start g) → length c.args.l.bytes ≡ 68
room g c = search rules

pub returns-then-n-gt-LINE_ROOM : goal.returns-then-n-gt-LINE_ROOM
returns-then-n-gt-LINE_ROOM g c = not_whole c.args.l (omega arith)

pub slice_bounds-bytes-end : goal.slice_bounds-bytes-end
slice_bounds-bytes-end g c = let h = room g (goal.at.slice_bounds-bytes-end g c).Start in omega arith

pub slice_bounds-hand_over-end : goal.slice_bounds-hand_over-end
slice_bounds-hand_over-end g c = let h = room g (goal.at.slice_bounds-hand_over-end g c).Start in sym (length-take-le _ _ (omega arith))

pub hand_over-requires : goal.hand_over-requires
hand_over-requires g c = sym (whole c.args.l (omega arith))

pub returns : goal.returns
returns g c =
    whole_length c.args.l (room g (goal.at.returns g c).Start) (omega arith)
