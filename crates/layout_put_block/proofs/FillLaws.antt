-- Filler and padding.
use Prim.Native.Nat.{ℕ, zero, suc, ◌+◌, ◌-◌, ◌*◌, ◌/◌, ◌%◌, ◌<◌}
use mathlib.Core.Path.{◌≡◌, refl, sym, ap, ◌∙◌}
use mathlib.Core.List.{List, [], ◌∷◌, flat_map}
use native.Mathlib.Omega.{arith}
use lib.ListN.{take, replicate}
use Rattle.std.specs.List.{flat_map as flat_map_std}
use Rattle.layout.specs.Records.{be32, padded_size, cue_bytes, filler, fillers}

-- a filler's bytes
abbrev filler_bytes : List ℕ
filler_bytes = 255 ∷ 255 ∷ 255 ∷ 255 ∷ 0 ∷ 0 ∷ 0 ∷ 0 ∷ []

-- arrays one after the other
abbrev flattened : List (List ℕ) → List ℕ
flattened bss = flat_map_std (λ (bs : List ℕ). bs) bss

-- of three fillers the first k
first_fillers : (k : ℕ) → k < 4 → flattened (take k (replicate 3 filler_bytes)) ≡ flat_map cue_bytes (replicate k filler)
unfolding cue_bytes be32 flat_map
first_fillers zero h = refl
first_fillers (suc zero) h = refl
first_fillers (suc (suc zero)) h = refl
first_fillers (suc (suc (suc zero))) h = refl
first_fillers (suc (suc (suc (suc k)))) h = absurd (omega arith)

module _ (n : ℕ) where
  -- the fillers after n cues
  pub fillers_flat : flattened (take ((4 - n % 4) % 4) (replicate 3 filler_bytes)) ≡ flat_map cue_bytes (fillers n)
  unfolding fillers padded_size
  fillers_flat =
      let e : padded_size (8 * n) / 8 - n ≡ (4 - n % 4) % 4 = omega arith in
      first_fillers ((4 - n % 4) % 4) (omega arith) ∙ ap (λ (k : ℕ). flat_map cue_bytes (replicate k filler)) (sym e)

  -- how much is padded
  pub pad_is : (32 - n % 32) % 32 ≡ padded_size n - n
  unfolding padded_size
  pad_is = omega arith

  pub pad_all : padded_size n ≡ n + (32 - n % 32) % 32
  unfolding padded_size
  pad_all = omega arith
