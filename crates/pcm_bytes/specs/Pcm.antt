-- Samples as bytes: 16 bits, little-endian.
use Rattle.std.specs.Prelude.{ℕ, ◌+◌, ◌*◌, ◌/◌, ◌%◌, ◌≡◌, List, [], ◌∷◌, ℤ}
use Rattle.std.specs.Int.{w16}
use Rattle.std.proofs.Common.{SFits, of_z, to_z}
use Rattle.layout.specs.Lists.{All}

-- The two bytes of each sample, one after the other, the low one first.
unfoldable pub pcm_bytes : List ℤ → List ℕ
pcm_bytes [] = []
pcm_bytes (x ∷ xs) = of_z w16 x % 256 ∷ of_z w16 x / 256 ∷ pcm_bytes xs

-- The sample of each two bytes; an odd last byte is none.
unfoldable pub pcm_samples : List ℕ → List ℤ
pcm_samples [] = []
pcm_samples (low ∷ []) = []
pcm_samples (low ∷ high ∷ bytes) = to_z w16 (low + 256 * high) ∷ pcm_samples bytes

-- Samples of 16 bits come back from their bytes.
unfoldable pub PcmBack : Type 0
PcmBack = (xs : List ℤ) → All (SFits w16) xs → pcm_samples (pcm_bytes xs) ≡ xs
