use mathlib.Core.Path.{◌≡◌}
use lib.ListN.{length}
use Rattle.c_record_put.proofs.RecordLaws.{side-put}
use borrow.Author.Rules.{rules}
use Rattle.c_record_put.proofs.put_side.Goals as goal
use Rattle.c_record_put.proofs.put_side.Goals.{Start}

sixteen : (c : Start) → length c.args.side.coefficients ≡ 16
sixteen c = search rules

pub returns : goal.returns
returns c =
    side-put _ _ _ _ _ c.args.at c.args.side c.requires.1 (sixteen (goal.at.returns c).Start)
    c.put_u32.ensures c.put_u32-2.ensures c.put_coefficients.ensures c.put_u16.ensures
    c.put_context.ensures
