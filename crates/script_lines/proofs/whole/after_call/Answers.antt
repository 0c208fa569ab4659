use mathlib.Core.Path.{◌∙◌}
use Rattle.script_lines.specs.Whole.{after_call}
use Rattle.script_lines.proofs.WholeLaws.{some_if, call_plain}
use Rattle.script_lines.proofs.whole.after_call.Goals as goal

pub returns-in-Begin : goal.returns-in-Begin
unfolding after_call
returns-in-Begin c = rw c.in-Begin.is (c.then_some.ensures ∙ some_if _ _)

pub returns-in-Push : goal.returns-in-Push
unfolding after_call
returns-in-Push c = rw (c.in-Push.is, ← c.push_line.ensures) (c.then_some-in-Push.ensures ∙ some_if _ _)

pub returns-in-Lent : goal.returns-in-Lent
unfolding after_call
returns-in-Lent c = rw c.in-Lent.is

pub returns-in-Channel : goal.returns-in-Channel
unfolding after_call
returns-in-Channel c = rw c.in-Channel.is

pub returns-in_default : goal.returns-in_default
returns-in_default c = c.then_some-in_default.ensures ∙ some_if _ _ ∙ call_plain _ _ _ c.in_default.not-Begin c.in_default.not-Push c.in_default.not-Lent c.in_default.not-Channel
