use mathlib.Core.Path.{◌≡◌, ap, ◌∙◌}
use lib.ListN.{length}
use Rattle.layout.specs.Refusals.{cue_limit}
use Rattle.layout.specs.Lists.{any}
use Rattle.writer.specs.Loading.{any_loop}
use Rattle.writer.specs.declared.Cue.{Cue}
use mathlib.Core.List.{List}
use Rattle.writer_assign_cues.proofs.TakeLaws.{same-part}
use borrow.Author.Rules.{rules}
use Rattle.writer_assign_cues.proofs.any_loop.Goals as goal
use Rattle.writer_assign_cues.proofs.any_loop.Goals.{Start}

table : (c : Start) → length c.args.cues ≡ cue_limit
table c = search rules

pub returns : goal.returns
unfolding any
returns c =
    c.has_loop.ensures ∙ ap (λ (l : List Cue). any_loop l) (same-part c.args.cues c.args.count _ (table (goal.at.returns c).Start) c.min-most.ensures 0)
