use Rattle.writer_assign_cues.proofs.TakeLaws.{all_taken, some_taken}
use mathlib.Core.Path.{◌≡◌}
use lib.ListN.{length}
use Rattle.layout.specs.Refusals.{cue_limit}
use native.Mathlib.Omega.{arith}
use borrow.Author.Rules.{rules}
use Rattle.writer_assign_cues.proofs.take_within.Goals as goal

pub returns-then-last : goal.returns-then-last
returns-then-last c =
    let table : length c.args.cues ≡ cue_limit = search rules in
    all_taken c.args.cues c.args.from c.args.count c.args.end c.args.last c.requires.0 _ c.if-last.true (omega arith) c.tally.ensures

pub returns : goal.returns
returns c = search (some_taken, rules)
