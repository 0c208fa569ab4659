use mathlib.Core.Path.{◌≡◌}
use lib.ListN.{length}
use Rattle.writer_finish.proofs.FinishLaws.{header_is}
use borrow.Author.Rules.{rules}
use Rattle.writer_finish.proofs.header.Goals as goal
use Rattle.writer_finish.proofs.header.Goals.{Start}

left-16 : (c : Start) → length c.args.left.coefficients ≡ 16
left-16 c = search rules

right-16 : (c : Start) → length c.args.right.coefficients ≡ 16
right-16 c = search rules

pub returns : goal.returns
returns c =
    header_is _ c.args.channels c.args.sum _ c.args.left c.args.right _ _ (left-16 (goal.at.returns c).Start) (right-16 (goal.at.returns c).Start) c.filled-l.ensures c.second-r.ensures c.low_bits.ensures
    c.put_file_header.ensures
