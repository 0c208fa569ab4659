use Rattle.fader_curve.proofs.TextLaws.{Putting}
use Rattle.fader_curve.proofs.curve_text.Given as goal

abbrev pub invariant-loop-k : goal.invariant-loop-k
invariant-loop-k l = Putting l.initial.text l.text l.at l.k
