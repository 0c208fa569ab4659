use native.Mathlib.Omega.{arith}
use Rattle.fader.specs.Fader.{curve_entry}
use Rattle.fader.proofs.CurveLaws.{rule}
use Rattle.fader.proofs.curve.entry.Goals as goal

-- antt computes the list of the rule and finds the code's table in it

pub returns : goal.returns
unfolding curve_entry
returns c = rule curve_entry 1024 c.args.level (omega (arith, c.requires))
