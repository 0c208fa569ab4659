use mathlib.Core.Path.{ap, sym, ◌∙◌}
use mathlib.Core.List.{flatten}
use Rattle.layout.proofs.ListLaws.{same-is, decides}
use Rattle.key_print.proofs.same_listing.Goals as goal

pub returns-then-same_stop : goal.returns-then-same_stop
returns-then-same_stop c =
    c.if-same_stop.true ∙ sym (same-is (sym (ap flatten c.start_listing-left.ensures.stage_value) ∙ c.same_stop.ensures c.if-same_stop.true _ _ _ _
    ∙ ap flatten c.start_listing-right.ensures.stage_value))

pub returns-else-same_stop : goal.returns-else-same_stop
returns-else-same_stop c =
    let f = ap flatten c.start_listing-left.ensures.stage_value in
    let g = ap flatten c.start_listing-right.ensures.stage_value in
    decides _ (λ t. sym f ∙ c.same_lines.ensures.here_value t ∙ g) (λ t e. c.same_lines.ensures.fact t (f ∙ e ∙ sym g))
