use mathlib.Core.Path.{refl}
use native.Mathlib.Omega.{arith}
use Rattle.fader.specs.Fader.{curve_entry}
use Rattle.fader.proofs.CurveLaws.{square_bound}
use Rattle.fader_curve.proofs.entry.Goals as goal

pub overflow_mul-square : goal.overflow_mul-square
overflow_mul-square c = omega (arith, square_bound c.requires)

pub overflow_mul-result : goal.overflow_mul-result
overflow_mul-result c = omega (arith, square_bound c.requires)

pub returns : goal.returns
unfolding curve_entry
returns c = refl
