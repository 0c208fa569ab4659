use Rattle.script_lines.proofs.ChannelLaws.{Saying}
use Rattle.script_lines.proofs.channels.says_coefficients.Given as goal

abbrev pub invariant-loop-i : goal.invariant-loop-i
invariant-loop-i l = Saying l.line l.i
