use mathlib.Core.Path.{ap, sym, ◌∙◌}
use Rattle.cut_answer.specs.Answers.{asked_answer}
use Rattle.cut_answer.proofs.show.Goals as goal

pub returns-in-All : goal.returns-in-All
unfolding asked_answer
returns-in-All g c = ap (asked_answer _) (sym c.in-All.is)

pub returns-in-Moment : goal.returns-in-Moment
unfolding asked_answer
returns-in-Moment g c = c.show_moment.ensures ∙ ap (asked_answer _) (sym c.in-Moment.is)
