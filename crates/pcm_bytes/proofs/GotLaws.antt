-- Samples got from bytes, one after the other; and samples come back from their bytes.
use Prim.Native.Nat.{ℕ, zero, suc, ◌+◌, ◌*◌, ◌/◌, ◌%◌, ◌<◌}
use mathlib.Core.Path.{◌≡◌, refl, ap}
use mathlib.Core.List.{List, [], ◌∷◌, ◌++◌, append_assoc}
use native.Mathlib.Nat.{not-suc-le-zero}
use native.Mathlib.Omega.{arith}
use native.Mathlib.Numerals.{add-one}
use lib.ListN.{length, get_or, take, drop, set}
use lib.Seq.{drop-cons, length-take-le, set_at, take-suc}
use lib.IntN.{ℤ, pos}
use mir.Syntax.{w16}
use mir.Val.{SFits, of_z, to_z}
use mir.Facts.{to_z-of_z}
use Rattle.layout.specs.Lists.{All, none, more}
use Rattle.pcm_bytes.specs.Pcm.{pcm_bytes, pcm_samples}

-- each two bytes have a sample
pub samples_length : (bytes : List ℕ) → length (pcm_samples bytes) ≡ length bytes / 2
unfolding pcm_samples
samples_length [] = refl
samples_length (low ∷ []) = refl
samples_length (low ∷ high ∷ bytes) = omega (arith, samples_length bytes)

-- those of whole samples, and then those of the rest
pub samples_append : (first rest : List ℕ) → length first % 2 ≡ 0 → pcm_samples (first ++ rest) ≡ pcm_samples first ++ pcm_samples rest
unfolding pcm_samples
samples_append [] rest h = refl
samples_append (low ∷ []) rest h = absurd (omega arith)
samples_append (low ∷ high ∷ first) rest h = ap (λ (xs : List ℤ). to_z w16 (low + 256 * high) ∷ xs) (samples_append first rest (omega arith))

-- the sample of this number
pub sample-at : (bytes : List ℕ) (i : ℕ) → 2 * i + 1 < length bytes → get_or (pcm_samples bytes) i (pos 0) ≡ to_z w16 (get_or bytes (2 * i) 0 + 256 * get_or bytes (2 * i + 1) 0)
unfolding pcm_samples
sample-at [] i h = absurd (not-suc-le-zero h)
sample-at (low ∷ []) i h = absurd (omega arith)
sample-at (low ∷ high ∷ bytes) zero h = refl
sample-at (low ∷ high ∷ bytes) (suc i) h =
    let e : 2 * suc i ≡ suc (suc (2 * i)) = omega arith in
    let o : 2 * suc i + 1 ≡ suc (suc (2 * i + 1)) = omega arith in
    rw (o, e) (sample-at bytes i (omega arith))

-- the samples from one on are those of the bytes from its two on
from_next : (i : ℕ) → ((bytes : List ℕ) → pcm_samples (drop (2 * i) bytes) ≡ drop i (pcm_samples bytes))
    → (bytes : List ℕ) → pcm_samples (drop (suc (suc (2 * i))) bytes) ≡ drop (suc i) (pcm_samples bytes)
unfolding pcm_samples
from_next i rest [] = refl
from_next i rest (low ∷ []) = refl
from_next i rest (low ∷ high ∷ bytes) = rest bytes

pub samples_from : (i : ℕ) (bytes : List ℕ) → pcm_samples (drop (2 * i) bytes) ≡ drop i (pcm_samples bytes)
samples_from zero bytes = refl
samples_from (suc i) bytes = let e : 2 * suc i ≡ suc (suc (2 * i)) = omega arith in rw e (from_next i (samples_from i) bytes)

-- one more sample, in the place after those of the first i
pub got_more : (bytes : List ℕ) (before : List ℤ) (i : ℕ) {part : List ℤ} {x : ℤ} → i < length before → 2 * i + 1 < length bytes
    → part ≡ take i (pcm_samples bytes) ++ drop i before
    → x ≡ to_z w16 (get_or bytes (2 * i) 0 + 256 * get_or bytes (2 * i + 1) 0)
    → set part i x ≡ take (i + 1) (pcm_samples bytes) ++ drop (i + 1) before
got_more bytes before i {part} {x} lt h e v =
    let m : i < length (pcm_samples bytes) = omega (arith, samples_length bytes) in
    let long : length (take i (pcm_samples bytes)) ≡ i = length-take-le i (pcm_samples bytes) (omega arith) in
    rw (e, drop-cons before i (pos 0), set_at _ _ _ x i long, v, ← sample-at bytes i h, add-one i, take-suc (pcm_samples bytes) i (pos 0) m) (simp append_assoc)

pub samples_back : (xs : List ℤ) → All (SFits w16) xs → pcm_samples (pcm_bytes xs) ≡ xs
unfolding pcm_bytes pcm_samples
samples_back [] none = refl
samples_back (x ∷ xs) (more f fs) =
    let e : of_z w16 x % 256 + 256 * (of_z w16 x / 256) ≡ of_z w16 x = omega arith in
    rw (e, to_z-of_z f, samples_back xs fs)
