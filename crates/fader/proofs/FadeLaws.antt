-- A faded sample, samples faded one after the other, and the call.
use Prim.Native.Nat.{ℕ, zero, suc, ◌*◌, ◌≤◌, ◌<◌}
use mathlib.Core.Path.{◌≡◌, refl, ap}
use mathlib.Core.List.{List, [], ◌∷◌, ◌++◌}
use native.Mathlib.Nat.{mul-zero}
use native.Mathlib.Omega.{arith}
use lib.ListN.{length, length-map}
use lib.Dec.{ltb}
use lib.IntN.{ℤ, pos, negsuc, neg_ℤ, ◌*ℤ◌}
use mir.Syntax.{w16, w32}
use mir.Val.{SFits}
use borrow.Author.Tests.{lt-ltb, le-ltb, ltb-true, ltb-false}
use Rattle.layout.specs.Records.{Read}
use Rattle.layout.proofs.Cases.{by_cases}
use Rattle.whole_numbers.specs.Whole.{floor_div}
use Rattle.whole_numbers.proofs.WholeLaws.{abs_product, abs16, fits_in, mul_bound}
use Rattle.fader.specs.Fader.{FadeAnswer, level_limit, curve_entry, faded, faded_by, fading, fade_reply}
use Rattle.fader.specs.FaderLaws.{FadedFrom}

-- ---- One sample

-- the product of a sample and an entry
pub product_fits : {x : ℤ} {e : ℕ} → SFits w16 x → e ≤ 32768 → SFits w32 (x *ℤ pos e)
product_fits {x} {e} f h = fits_in w32 (x *ℤ pos e) (let g = abs_product x (pos e) (abs16 f) h in omega arith)

-- of a sample below 0, p being its distance times the entry
below : (a e p : ℕ) → p ≡ suc a * e → e ≤ 32768 → suc a ≤ 32768 → FadedFrom (negsuc a) e (floor_div (neg_ℤ (pos p)) 32768)
unfolding floor_div
below a e zero q h m = record { fits = record { sfits = omega arith }; near = omega arith; up = omega arith; down = omega arith }
below a e (suc p) q h m =
    let g : suc p ≤ suc a * 32768 = rw q (mul_bound {m = suc a} {n = 32768} (omega arith) h) in
    record { fits = record { sfits = omega arith }; near = omega arith; up = omega arith; down = omega arith }

pub faded_from : (x : ℤ) (e : ℕ) → SFits w16 x → e ≤ 32768 → FadedFrom x e (faded x e)
unfolding faded floor_div
faded_from (pos a) e f h =
    let g : a * e ≤ a * 32768 = mul_bound {m = a} {n = 32768} (omega arith) h in
    record { fits = record { sfits = omega (arith, f.sfits) }; near = omega arith; up = omega arith; down = omega arith }
faded_from (negsuc a) e f h = below a e (suc a * e) refl h (omega (arith, f.sfits))

-- by 32,768 of 32,768
whole_below : (a p : ℕ) → p ≡ suc a * 32768 → floor_div (neg_ℤ (pos p)) 32768 ≡ negsuc a
unfolding floor_div
whole_below a zero q = absurd (omega arith)
whole_below a (suc p) q = ap negsuc (omega arith)

pub highest : (x : ℤ) → faded x 32768 ≡ x
unfolding faded floor_div
highest (pos a) = ap pos (omega arith)
highest (negsuc a) = whole_below a (suc a * 32768) refl

pub lowest : (x : ℤ) → faded x 0 ≡ pos 0
unfolding faded floor_div
lowest (pos a) = ap pos (omega arith)
lowest (negsuc a) = rw (mul-zero (suc a))

-- ---- The call

pub faded-length : (e : ℕ) (samples : List ℤ) → length (faded_by e samples) ≡ length samples
unfolding faded_by
faded-length e samples = length-map samples (λ x. faded x e)

pub faded-append : (e : ℕ) (xs ys : List ℤ) → faded_by e (xs ++ ys) ≡ faded_by e xs ++ faded_by e ys
unfolding faded_by
faded-append e [] ys = refl
faded-append e (x ∷ xs) ys = ap (λ (l : List ℤ). faded x e ∷ l) (faded-append e xs ys)

pub too_high : (level : ℕ) (samples : List ℤ) → level_limit < level → fading level samples ≡ FadeAnswer.refused 31
unfolding fading
too_high level samples h = rw (lt-ltb level_limit level h)

pub within : (level : ℕ) (samples : List ℤ) → level ≤ level_limit → fading level samples ≡ FadeAnswer.gave (faded_by (curve_entry level) samples)
unfolding fading
within level samples h = rw (le-ltb level_limit level h)

-- the reply goes by the level alone
pub same_reply : (level : ℕ) (xs ys : List ℤ) → fade_reply (fading level xs) ≡ fade_reply (fading level ys)
same_reply level xs ys =
    by_cases (ltb level_limit level)
    (λ t. let h = ltb-true level_limit level t in rw (too_high level xs h, too_high level ys h))
    (λ t. let h = ltb-false level_limit level t in rw (within level xs h, within level ys h))

-- and tells it
pub reply_high : (level : ℕ) (xs : List ℤ) {n : ℕ} → fade_reply (fading level xs) ≡ Read.refused n → level_limit < level
reply_high level xs e =
    by_cases (ltb level_limit level)
    (λ t. ltb-true level_limit level t)
    (λ t. let z = rw (within level xs (ltb-false level_limit level t)) at e in cc)

pub reply_low : (level : ℕ) (xs : List ℤ) → fade_reply (fading level xs) ≡ Read.value tt → level ≤ level_limit
reply_low level xs e =
    by_cases (ltb level_limit level)
    (λ t. let z = rw (too_high level xs (ltb-true level_limit level t)) at e in cc)
    (λ t. ltb-false level_limit level t)
