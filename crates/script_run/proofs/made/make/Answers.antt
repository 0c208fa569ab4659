use Rattle.script_run.proofs.CallLaws.{makes_none, make_push, make_finish, make_cue, make_none}
use Rattle.script_run.proofs.made.make.Goals as goal

pub returns-in-Push : goal.returns-in-Push
returns-in-Push c = make_push _ _ _ _ c.in-Push.is c.push_call.ensures

pub returns-in-Finish : goal.returns-in-Finish
returns-in-Finish c = make_finish _ _ _ _ c.in-Finish.is (c.finish_logged.ensures.value, (c.finish_logged.ensures.logged_after, c.finish_logged.ensures.good))

pub returns-in-Point : goal.returns-in-Point
returns-in-Point c = make_cue _ _ _ _ c.in-Point.is (c.cue_call.ensures _)

pub returns-in_default : goal.returns-in_default
returns-in_default c = make_none _ _ _ _ c.in_default.not-Push c.in_default.not-Finish c.in_default.not-Point c.in_default.not-Loop c.in_default.not-Range (makes_none _ c.requires.good)
