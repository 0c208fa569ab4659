use mathlib.Core.Path.{◌≡◌}
use native.Mathlib.Omega.{arith}
use lib.IntN.{pos, ◌*ℤ◌}
use mir.Syntax.{w32}
use mir.Val.{SFits}
use mir.ValLaws.{to_z_pos}
use mir.Facts.{to_z-of_z}
use Rattle.whole_numbers.proofs.WholeLaws.{wide, floor_fits}
use Rattle.fader.specs.Fader.{faded}
use Rattle.fader.proofs.FadeLaws.{product_fits, faded_from}
use Rattle.fader.proofs.fade_sample.Goals as goal
use Rattle.fader.proofs.fade_sample.Goals.{After-divided, Start}

sample : (c : Start) → SFits w32 c.args.x
sample c = wide w32 (omega arith) c.ranges.x

product : (c : Start) → SFits w32 (c.args.x *ℤ pos c.args.entry)
product c = product_fits c.ranges.x c.requires

pub overflow_cast-x : goal.overflow_cast-x
overflow_cast-x c = rw (to_z-of_z c.ranges.x) (sample c)

pub overflow_mul-x : goal.overflow_mul-x
overflow_mul-x c = simp (to_z-of_z c.ranges.x, to_z-of_z (sample c), to_z_pos w32 c.args.entry (omega (arith, c.requires))) (product c)

quotient : (c : After-divided) → c.divided.result ≡ faded c.args.x c.args.entry
unfolding faded
quotient c =
    simp (to_z-of_z c.ranges.x, to_z-of_z (sample c.before), to_z_pos w32 c.args.entry (omega (arith, c.requires)), to_z-of_z (product c.before)) at c.divided.ensures

within : (c : After-divided) → SFits w32 (faded c.args.x c.args.entry)
unfolding faded
within c = floor_fits 32768 (product c.before)

pub overflow_cast-result : goal.overflow_cast-result
overflow_cast-result c = simp (quotient c, to_z-of_z (within c)) (faded_from _ _ c.ranges.x c.requires).fits

pub returns : goal.returns
returns c = simp (quotient c, to_z-of_z (within c), to_z-of_z (faded_from _ _ c.ranges.x c.requires).fits)
