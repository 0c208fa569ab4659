use Prim.Native.Nat.{◌<◌}
use native.Mathlib.Omega.{arith}
use mathlib.Core.Path.{◌≡◌}
use lib.IntN.{pos}
use mir.Syntax.{w16}
use mir.Val.{SFits}
use mir.Facts.{to_z-of_z}
use borrow.Author.Rules.{rules}
use Rattle.whole_numbers.proofs.WholeLaws.{clamp_fits}
use Rattle.adpcm_sample.specs.Sample.{predicted, signed_half, scale, sample}
use Rattle.adpcm_sample.proofs.SampleLaws.{predicted-fits, half_fits, scale-fits, scaled_fits, whole-fits}
use Rattle.adpcm_sample.proofs.next_sample.Goals as goal
use Rattle.adpcm_sample.proofs.next_sample.Goals.{After-scale_of}

-- what the three calls gave, and what is known of the arguments

record Parts (c : After-scale_of) : Type 0 where
  predicted : c.prediction.result ≡ predicted c.args.c0 c.args.c1 c.args.context.last c.args.context.oldest
  half : c.signed_half.result ≡ signed_half c.args.half
  scale : c.scale_of.result ≡ pos (scale c.args.context.predictor_and_scale)
  last : SFits w16 c.args.context.last
  oldest : SFits w16 c.args.context.oldest
  byte : c.args.half < 256

parts : (c : After-scale_of) → Parts c
parts c =
    record {
      predicted = simp (to_z-of_z c.ranges.c0, to_z-of_z c.ranges.c1) at c.prediction.ensures;
      half = c.signed_half.ensures;
      scale = c.scale_of.ensures;
      last = search rules;
      oldest = search rules;
      byte = omega arith;
    }

pub overflow_mul-signed_half : goal.overflow_mul-signed_half
overflow_mul-signed_half c =
    let p = parts c in
    simp (p.half, p.scale, to_z-of_z (half_fits _ p.byte), to_z-of_z (scale-fits c.args.context.predictor_and_scale)) (scaled_fits _ _ p.byte)

pub overflow_add-prediction : goal.overflow_add-prediction
overflow_add-prediction c =
    let f = c.ranges in
    let s = c.args.context.predictor_and_scale in
    let p = parts c in
    simp (
      p.predicted,
      p.half,
      p.scale,
      to_z-of_z (half_fits _ p.byte),
      to_z-of_z (scale-fits s),
      to_z-of_z (scaled_fits _ s p.byte),
      to_z-of_z (predicted-fits f.c0 f.c1 p.last p.oldest),
    )
    (whole-fits f.c0 f.c1 p.last p.oldest _ s p.byte)

pub returns : goal.returns
unfolding sample
returns c =
    let f = c.ranges in
    let s = c.args.context.predictor_and_scale in
    let p = parts (goal.at.returns c).After-scale_of in
    simp (
      c.clamp_i16.ensures,
      p.predicted,
      p.half,
      p.scale,
      to_z-of_z (half_fits _ p.byte),
      to_z-of_z (scale-fits s),
      to_z-of_z (scaled_fits _ s p.byte),
      to_z-of_z (predicted-fits f.c0 f.c1 p.last p.oldest),
      to_z-of_z (whole-fits f.c0 f.c1 p.last p.oldest _ s p.byte),
    )
    (to_z-of_z (clamp_fits _))
