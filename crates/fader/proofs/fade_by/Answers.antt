use Rattle.std.proofs.Common.{rules, arith, get_or, pos}
use mir.Syntax.{w16}
use mir.Val.{SFits}
use mir.Facts.{to_z-of_z}
use Rattle.std.proofs.lemmas.List.{get_or_default}
use Rattle.std.proofs.lemmas.List.Edits.{map_over_more}
use Rattle.std.proofs.lemmas.Grind.{common_steps}
use Rattle.fader.specs.Fader.{faded, faded_by}
use Rattle.fader.proofs.FadeLaws.{faded_from}
use Rattle.fader.proofs.fade_by.Goals as goal

pub loop-x-preserved : goal.loop-x-preserved
loop-x-preserved c =
    let f : SFits w16 (get_or c.loop-x.samples c.loop-x.x-index (pos 0)) = search rules in
    simp (c.fade_sample.ensures, to_z-of_z f, to_z-of_z (faded_from _ _ f c.requires).fits)
    (map_over_more (λ x. faded x c.args.entry) _ _ _ _ (omega arith) c.loop-x.invariant (get_or_default c.loop-x.samples c.loop-x.x-index (pos 0) _ (omega arith)))

pub returns : goal.returns
unfolding faded_by
returns c = grind (arith, common_steps)
