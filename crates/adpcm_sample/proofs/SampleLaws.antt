-- One sample: every number on the way fits 64 bits.
use Prim.Native.Nat.{ℕ, ◌*◌, ◌%◌, ◌^◌, ◌≤◌, ◌<◌}
use mathlib.Core.Path.{◌≡◌, refl, ap, ◌∙◌}
use mathlib.Core.Bool.{Bool, true, false}
use Rattle.layout.specs.Choice.{pick}
use native.Mathlib.Nat.{mod-eq_of_lt, one-mul}
use native.Mathlib.Omega.{arith}
use lib.Dec.{leb, ltb}
use borrow.Author.Tests.{leb-true}
use lib.Pow.{pow_mono}
use lib.IntN.{ℤ, pos, negsuc, nat_abs, ◌+ℤ◌, ◌-ℤ◌, ◌*ℤ◌}
use mir.Syntax.{w16, w64}
use mir.Val.{SFits, to_z}
use mir.ValLaws.{to_z_pos}
use Rattle.whole_numbers.proofs.WholeLaws.{abs_add, abs_floor, abs_product, fits_in, times_bound, clamp_fits}
use Rattle.adpcm_sample.specs.Sample.{signed_half, predicted, scale, sample}

module _ {c0 c1 last oldest : ℤ} (f0 : SFits w16 c0) (f1 : SFits w16 c1) (fl : SFits w16 last) (fo : SFits w16 oldest) where
  pub two_bound : nat_abs (c0 *ℤ last +ℤ c1 *ℤ oldest) ≤ 2147483648
  two_bound = omega (arith, abs_add (c0 *ℤ last) (c1 *ℤ oldest), times_bound f0 fl, times_bound f1 fo)

  pub two_fits : SFits w64 (c0 *ℤ last +ℤ c1 *ℤ oldest)
  two_fits = fits_in w64 _ (let h = two_bound in omega arith)

  -- and with a small number beside them
  pub sum_bound : (k : ℕ) → leb k 2048 ≡ true → nat_abs (c0 *ℤ last +ℤ c1 *ℤ oldest +ℤ pos k) ≤ 2147485696
  sum_bound k e = let h = two_bound in omega (arith, leb-true k 2048 e, abs_add (c0 *ℤ last +ℤ c1 *ℤ oldest) (pos k))

  pub sum_fits : (k : ℕ) → leb k 2048 ≡ true → SFits w64 (c0 *ℤ last +ℤ c1 *ℤ oldest +ℤ pos k)
  sum_fits k e = fits_in w64 _ (let h = sum_bound k e in omega arith)

  pub predicted_bound : nat_abs (predicted c0 c1 last oldest) ≤ 2147485696
  unfolding predicted
  predicted_bound = let h = sum_bound 1024 refl in omega (arith, abs_floor (c0 *ℤ last +ℤ c1 *ℤ oldest +ℤ pos 1024) 2048)

  pub predicted-fits : SFits w64 (predicted c0 c1 last oldest)
  predicted-fits = fits_in w64 _ (let h = predicted_bound in omega arith)

-- A half byte.
less_bound : (h : ℕ) → h < 256 → nat_abs (pos h -ℤ pos 16) ≤ 271
less_bound h p = omega (arith, abs_add (pos h) (negsuc 15))

pub half_bound : (h : ℕ) → h < 256 → nat_abs (signed_half h) ≤ 271
unfolding signed_half
half_bound h p = by (ltb h 8)
  where
    by : (t : Bool) → nat_abs (pick t (pos h) (pos h -ℤ pos 16)) ≤ 271
    by true = omega arith
    by false = less_bound h p

pub half_fits : (h : ℕ) → h < 256 → SFits w64 (signed_half h)
half_fits h p = fits_in w64 _ (let b = half_bound h p in omega arith)

-- The scale.
pub scale_bound : (ps : ℕ) → scale ps ≤ 32768
unfolding scale
scale_bound ps = pow_mono {j = 15} (omega arith)

pub scale-fits : (ps : ℕ) → SFits w64 (pos (scale ps))
scale-fits ps = record { sfits = let h = scale_bound ps in omega arith }

pub scale_read : (ps : ℕ) → to_z w64 (1 * 2 ^ (ps % 16) % 18446744073709551616) ≡ pos (scale ps)
unfolding scale
scale_read ps =
    let h = scale_bound ps in
    ap (to_z w64) (mod-eq_of_lt (omega arith) ∙ one-mul (scale ps)) ∙ to_z_pos w64 (scale ps) (omega arith)

pub scaled_fits : (h ps : ℕ) → h < 256 → SFits w64 (signed_half h *ℤ pos (scale ps))
scaled_fits h ps p = fits_in w64 _ (let b = abs_product (signed_half h) (pos (scale ps)) (half_bound h p) (scale_bound ps) in omega arith)

pub whole-fits : {c0 c1 last oldest : ℤ} → SFits w16 c0 → SFits w16 c1 → SFits w16 last → SFits w16 oldest → (h ps : ℕ) → h < 256
    → SFits w64 (predicted c0 c1 last oldest +ℤ signed_half h *ℤ pos (scale ps))
whole-fits {c0} {c1} {last} {oldest} f0 f1 fl fo h ps p =
    fits_in w64 _
    (let b = abs_product (signed_half h) (pos (scale ps)) (half_bound h p) (scale_bound ps) in
    let q = predicted_bound f0 f1 fl fo in
    omega (arith, abs_add (predicted c0 c1 last oldest) (signed_half h *ℤ pos (scale ps))))
