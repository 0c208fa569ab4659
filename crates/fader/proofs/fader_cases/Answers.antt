use mathlib.Core.Path.{refl}
use Rattle.whole_numbers.specs.Whole.{floor_div}
use Rattle.fader.specs.Fader.{curve_entry, faded, faded_by, fading}
use Rattle.fader.proofs.fader_cases.Goals as goal

-- The cases compute.

pub returns : goal.returns
unfolding floor_div curve_entry faded faded_by fading
returns c =
    record {
      entry512 = refl;
      entry1023 = refl;
      stays = refl;
      silent = refl;
      above = refl;
      below = refl;
      greatest = refl;
      least = refl;
      none = refl;
      last = refl;
    }
