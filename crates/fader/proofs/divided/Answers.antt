use mir.Facts.{to_z-of_z}
use Rattle.whole_numbers.proofs.WholeLaws.{shr_floor, floor_fits}
use Rattle.fader.proofs.divided.Goals as goal

-- The shift copies the sign bit:
-- below 0 it rounds away from 0,
-- where the machine's division rounds towards it.

pub returns : goal.returns
returns c = simp (to_z-of_z c.ranges.product, shr_floor, to_z-of_z (floor_fits 32768 c.ranges.product))
