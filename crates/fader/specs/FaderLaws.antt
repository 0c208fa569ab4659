-- What holds of faded samples, and small cases (document 02, Card 3).
use Rattle.std.specs.Prelude.{ℕ, ◌+◌, ◌*◌, ◌≤◌, ◌<◌, ◌≡◌, [], ◌∷◌, ℤ, pos, negsuc, nat_abs}
use Rattle.std.specs.Int.{w16}
use Rattle.std.proofs.Common.{SFits}
use Rattle.fader.specs.Fader.{FadeAnswer, level_limit, curve_entry, faded, fading}

-- A number of 16 bits, no farther from 0 than the sample; and its distance is the sample's own times entry / 32,768, rounded: by less than one, up or down.
pub record FadedFrom (sample : ℤ) (entry : ℕ) (given : ℤ) : Type 0 where
  pub fits : SFits w16 given
  pub near : nat_abs given ≤ nat_abs sample
  pub up : nat_abs given * 32768 < nat_abs sample * entry + 32768
  pub down : nat_abs sample * entry < nat_abs given * 32768 + 32768

pub record FadedWithin : Type 0 where
  pub within : (x : ℤ) → SFits w16 x → (level : ℕ) → level ≤ level_limit → FadedFrom x (curve_entry level) (faded x (curve_entry level))
  -- the highest level leaves every sample, the lowest gives silence
  pub highest : (x : ℤ) → faded x (curve_entry level_limit) ≡ x
  pub lowest : (x : ℤ) → faded x (curve_entry 0) ≡ pos 0

pub record FaderCases : Type 0 where
  -- "Entry 512 is 8,208 and entry 1,023 is 32,768."
  pub entry512 : curve_entry 512 ≡ 8208
  pub entry1023 : curve_entry 1023 ≡ 32768
  -- -1 stays -1 from level 6 on; at level 5, whose entry is 0, it becomes 0
  pub stays : faded (negsuc 0) (curve_entry 6) ≡ negsuc 0
  pub silent : faded (negsuc 0) (curve_entry 5) ≡ pos 0
  -- 1 and -1 at level 1,022: 0 and -1
  pub above : faded (pos 1) (curve_entry 1022) ≡ pos 0
  pub below : faded (negsuc 0) (curve_entry 1022) ≡ negsuc 0
  -- the greatest and the least sample at level 512
  pub greatest : faded (pos 32767) (curve_entry 512) ≡ pos 8207
  pub least : faded (negsuc 32767) (curve_entry 512) ≡ negsuc 8207
  -- 31 also where there are no samples; none at level 1,023
  pub none : fading 1024 [] ≡ FadeAnswer.refused 31
  pub last : fading 1023 (pos 5 ∷ []) ≡ FadeAnswer.gave (pos 5 ∷ [])
