use Rattle.layout_read.proofs.ChannelLaws.{Reading}
use Rattle.layout_read.proofs.channels.read_coefficients.Given as goal

abbrev pub invariant-loop-i : goal.invariant-loop-i
invariant-loop-i l = Reading l.s l.at l.coefficient-items l.i
