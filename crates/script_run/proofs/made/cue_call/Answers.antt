use Rattle.script_run.proofs.CallLaws.{cue_makes}
use Rattle.script_run.proofs.made.cue_call.Goals as goal

pub returns : goal.returns
returns c = λ logged. rw (← c.cue_line.ensures) (cue_makes _ c.cue-call.ensures.value c.cue-call.ensures.good)
