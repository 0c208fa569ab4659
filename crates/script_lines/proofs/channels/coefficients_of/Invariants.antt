use Rattle.script_lines.proofs.ChannelLaws.{Reading}
use Rattle.script_lines.proofs.channels.coefficients_of.Given as goal

abbrev pub invariant-loop-i : goal.invariant-loop-i
invariant-loop-i l = Reading l.line l.values l.i
