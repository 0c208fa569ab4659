use mathlib.Core.Path.{◌≡◌}
use lib.ListN.{length}
use Rattle.c_record_put.proofs.RecordLaws.{sides_put}
use borrow.Author.Rules.{rules}
use Rattle.c_record_put.proofs.put_sides.Goals as goal
use Rattle.c_record_put.proofs.put_sides.Goals.{Start}

first : (c : Start) → length c.args.left.coefficients ≡ 16
first c = search rules

second : (c : Start) → length c.args.right.coefficients ≡ 16
second c = search rules

pub returns : goal.returns
returns c =
    sides_put _ _ c.args.left c.args.right c.requires (first (goal.at.returns c).Start) (second (goal.at.returns c).Start) c.put_side.ensures c.put_side-2.ensures
