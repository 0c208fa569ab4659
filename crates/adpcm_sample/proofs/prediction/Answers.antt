use mathlib.Core.Path.{◌≡◌, refl}
use lib.IntN.{◌*ℤ◌}
use mir.Syntax.{w16}
use mir.Val.{SFits}
use mir.Facts.{to_z-of_z}
use borrow.Author.Rules.{rules}
use Rattle.whole_numbers.proofs.WholeLaws.{shr_floor, times_fits, floor_fits}
use Rattle.adpcm_sample.specs.Sample.{predicted}
use Rattle.adpcm_sample.proofs.SampleLaws.{two_fits, sum_fits}
use Rattle.adpcm_sample.proofs.prediction.Goals as goal
use Rattle.adpcm_sample.proofs.prediction.Goals.{After-product-2}

-- what the two products are, and that their factors fit

record Factors (c : After-product-2) : Type 0 where
  near : c.product.result ≡ c.args.c0 *ℤ c.args.context.last
  far : c.product-2.result ≡ c.args.c1 *ℤ c.args.context.oldest
  last : SFits w16 c.args.context.last
  oldest : SFits w16 c.args.context.oldest

factors : (c : After-product-2) → Factors c
factors c =
    let f = c.ranges in
    let l : SFits w16 c.args.context.last = search rules in
    let o : SFits w16 c.args.context.oldest = search rules in
    record { near = simp (to_z-of_z f.c0, to_z-of_z l) at c.product.ensures; far = simp (to_z-of_z f.c1, to_z-of_z o) at c.product-2.ensures; last = l; oldest = o }

pub overflow_add-result : goal.overflow_add-result
overflow_add-result c =
    let f = c.ranges in
    let g = factors c in
    simp
    (g.near, g.far, to_z-of_z (times_fits f.c0 g.last), to_z-of_z (times_fits f.c1 g.oldest))
    (two_fits f.c0 f.c1 g.last g.oldest)

pub overflow_add-result-2 : goal.overflow_add-result-2
overflow_add-result-2 c =
    let f = c.ranges in
    let g = factors (goal.at.overflow_add-result-2 c).After-product-2 in
    simp
    (g.near, g.far, to_z-of_z (times_fits f.c0 g.last), to_z-of_z (times_fits f.c1 g.oldest), to_z-of_z (two_fits f.c0 f.c1 g.last g.oldest))
    (sum_fits f.c0 f.c1 g.last g.oldest _ refl)

pub returns : goal.returns
unfolding predicted
returns c =
    let f = c.ranges in
    let g = factors (goal.at.returns c).After-product-2 in
    let s = sum_fits f.c0 f.c1 g.last g.oldest 1024 refl in
    simp (
      g.near,
      g.far,
      to_z-of_z (times_fits f.c0 g.last),
      to_z-of_z (times_fits f.c1 g.oldest),
      to_z-of_z (two_fits f.c0 f.c1 g.last g.oldest),
      to_z-of_z s,
      shr_floor,
      to_z-of_z (floor_fits 2048 s),
    )
