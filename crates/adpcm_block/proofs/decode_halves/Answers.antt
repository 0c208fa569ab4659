use mathlib.Core.Path.{◌≡◌, sym, ◌∙◌}
use native.Mathlib.Omega.{arith}
use lib.ListN.{length, get_or, take}
use lib.Seq.{get_or-take}
use mir.Syntax.{w16}
use mir.Val.{SFits}
use mir.Facts.{to_z-of_z}
use borrow.Author.Rules.{rules}
use Rattle.adpcm_block.specs.Block.{halves}
use Rattle.adpcm_block.proofs.HalfLaws.{counted-halves, halving_next, halving_all}
use Rattle.adpcm_block.proofs.decode_halves.Goals as goal

pub loop-i-preserved : goal.loop-i-preserved
loop-i-preserved c =
    let n = counted-halves c.args.data.now _ c.requires in
    let f : SFits w16 c.next_sample-x.result = search rules in
    let g : SFits w16 c.loop-i.context.last = search rules in
    let half : c.half_at.result ≡ get_or (take (length c.args.samples.now) (halves c.args.data.now)) c.loop-i.i 0 =
    c.half_at.ensures ∙ sym (get_or-take (length c.args.samples.now) (halves c.args.data.now) c.loop-i.i 0 c.loop-i-test.true) in
    halving_next c.loop-i.invariant (omega arith) (omega arith) (to_z-of_z f ∙ (rw half at c.next_sample-x.ensures)) (to_z-of_z g)

pub returns : goal.returns
returns c =
    let n = counted-halves c.args.data.now _ c.requires in
    let all = halving_all c.loop-i.invariant (omega arith) (omega arith) in
    let f = c.ranges in
    record { value = simp (to_z-of_z f.c0, to_z-of_z f.c1) at all.0; samples_after = simp (to_z-of_z f.c0, to_z-of_z f.c1) at all.1 }
