use mathlib.Core.Path.{◌≡◌}
use lib.ListN.{length}
use Rattle.c_record_put.proofs.RecordLaws.{record_put, first-put, later_put}
use borrow.Author.Rules.{rules}
use Rattle.c_record_put.proofs.put_pushed.Goals as goal
use Rattle.c_record_put.proofs.put_pushed.Goals.{Start}

left : (c : Start) → length c.args.f.stream.left.coefficients ≡ 16
left c = search rules

right : (c : Start) → length c.args.f.stream.right.coefficients ≡ 16
right c = search rules

pub returns-then-f-eq-FIRST : goal.returns-then-f-eq-FIRST
returns-then-f-eq-FIRST c =
    let n = c.put_numbers.ensures in
    first-put _ _ c.args.f n c.if-f-eq-FIRST.true (record_put _ _ c.args.f n c.requires (left (goal.at.returns-then-f-eq-FIRST c).Start) (right (goal.at.returns-then-f-eq-FIRST c).Start) c.put_sides.ensures)

pub returns-else-f-eq-FIRST : goal.returns-else-f-eq-FIRST
returns-else-f-eq-FIRST c = later_put _ _ c.args.f c.put_numbers.ensures c.if-f-eq-FIRST.false
