use mathlib.Core.Path.{◌≡◌}
use native.Mathlib.Omega.{arith}
use lib.ListN.{length}
use Rattle.layout.specs.Refusals.{cue_limit}
use Rattle.writer_assign_cues.proofs.TakeLaws.{same_taken, no_cue-left}
use borrow.Author.Rules.{rules}
use Rattle.writer_assign_cues.proofs.take.Goals as goal
use Rattle.writer_assign_cues.proofs.take.Goals.{Start}

table : (c : Start) → length c.args.cues ≡ cue_limit
table c = search rules

pub take_within-requires : goal.take_within-requires
take_within-requires c = (omega arith, omega (arith, c.min-most.ensures))

pub returns-then-from-most : goal.returns-then-from-most
returns-then-from-most c =
    same_taken c.args.cues c.args.count _ (table (goal.at.returns-then-from-most c).Start) c.min-most.ensures c.args.from c.args.end c.args.last c.take_within.ensures

pub returns : goal.returns
returns c =
    no_cue-left c.args.cues c.args.count _ (table (goal.at.returns c).Start) c.min-most.ensures c.args.from c.args.end c.args.last (omega arith)
