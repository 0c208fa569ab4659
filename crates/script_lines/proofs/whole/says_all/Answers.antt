use mathlib.Core.Logic.{inl, inr}
use Rattle.script_lines.specs.Whole.{says_all}
use Rattle.script_lines.proofs.whole.says_all.Goals as goal

pub returns-in-Nothing : goal.returns-in-Nothing
unfolding says_all
returns-in-Nothing c = elim c.in-Nothing.is [ inl e ↦ rw e | inr e ↦ rw e ]

pub returns-in-Begin : goal.returns-in-Begin
unfolding says_all
returns-in-Begin c = rw (c.in-Begin.is, c.says_begin.ensures)

pub returns-in-Point : goal.returns-in-Point
unfolding says_all
returns-in-Point c = elim c.in-Point.is [ inl e ↦ rw e (rw e at c.says_cue.ensures) | inr f ↦ elim f [ inl e ↦ rw e (rw e at c.says_cue.ensures) | inr e ↦ rw e (rw e at c.says_cue.ensures) ] ]

pub returns-in-Push : goal.returns-in-Push
unfolding says_all
returns-in-Push c = rw (c.in-Push.is, c.says_push.ensures)

pub returns-in-Channel : goal.returns-in-Channel
unfolding says_all
returns-in-Channel c = rw (c.in-Channel.is, c.says_channel.ensures)

pub returns-in-Lent : goal.returns-in-Lent
unfolding says_all
returns-in-Lent c = rw (c.in-Lent.is, c.says_lent.ensures)

pub returns-in-Unknown : goal.returns-in-Unknown
unfolding says_all
returns-in-Unknown c = rw c.in-Unknown.is
