use Prim.Native.Nat.{◌+◌}
use lib.ListN.{get_or}
use lib.IntN.{pos}
use mir.Syntax.{w16}
use mir.Val.{SFits}
use mir.Facts.{to_z-of_z}
use Rattle.adpcm_block.specs.Block.{pair_at, pair_decoded}
use borrow.Author.Rules.{rules}
use Rattle.adpcm_block.proofs.decode_frame.Goals as goal

pub returns : goal.returns
unfolding pair_decoded
returns c =
    let at = pair_at c.args.context.predictor_and_scale in
    let g : SFits w16 (get_or c.args.coefficients.now at (pos 0)) = search rules in
    let h : SFits w16 (get_or c.args.coefficients.now (at + 1) (pos 0)) = search rules in
    simp (to_z-of_z g, to_z-of_z h) at c.decode_halves.ensures
