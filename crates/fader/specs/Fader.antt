-- Walk-in fader (document 02, Card 3): the curve, a faded sample, the fading call.
use Rattle.std.specs.Prelude.{ℕ, ◌*◌, ◌/◌, List, map, ltb, ℤ, pos, ◌*ℤ◌}
use Rattle.layout.specs.Choice.{pick}
use Rattle.layout.specs.Records.{Read}
use Rattle.whole_numbers.specs.Whole.{floor_div}

-- "levels 0 to 1,023"
abbrev pub level_limit : ℕ
level_limit = 1023

-- "entry k is 32,768·k²/1,046,529 rounded down"
unfoldable pub curve_entry : (k : ℕ) → ℕ
curve_entry k = 32768 * (k * k) / 1046529

-- "A faded sample is sample × entry / 32,768, rounded towards minus infinity."
unfoldable pub faded : (sample : ℤ) → (entry : ℕ) → ℤ
faded x e = floor_div (x *ℤ pos e) 32768

-- Each of some samples, by one entry.
unfoldable pub faded_by : (entry : ℕ) → List ℤ → List ℤ
faded_by e xs = map (λ x. faded x e) xs

-- What the fading call gives: a refusal's number, or the faded samples.
pub data FadeAnswer : Type 0 where
  refused : (number : ℕ) → FadeAnswer
  gave : (samples : List ℤ) → FadeAnswer

-- "It refuses with 31 a level above 1,023, before touching any sample.": whatever samples there are, also where there are none
unfoldable pub fading : (level : ℕ) → (samples : List ℤ) → FadeAnswer
fading level xs = pick (ltb level_limit level) (FadeAnswer.refused 31) (FadeAnswer.gave (faded_by (curve_entry level) xs))

-- ---- What the call returns

-- The number, or that the samples are faded.
abbrev pub fade_reply : FadeAnswer → Read (Unit {0})
fade_reply (FadeAnswer.refused n) = Read.refused n
fade_reply (FadeAnswer.gave xs) = Read.value tt

-- "before touching any sample": refused, the lent samples stay; else they are faded in place
abbrev pub samples_after : (lent : List ℤ) → FadeAnswer → List ℤ
samples_after lent (FadeAnswer.refused n) = lent
samples_after lent (FadeAnswer.gave xs) = xs
