use Rattle.std.proofs.Common.{◌<◌, ◌*◌, ◌+◌, length, length-take, rules, arith, SFits, ℤ, to_z, to_z-of_z, ap, ◌∙◌}
use mir.Syntax.{w16}
use Rattle.pcm_bytes.proofs.GotLaws.{got_more}
use Rattle.pcm_bytes.proofs.get_pcm.Goals as goal

pub loop-i-preserved : goal.loop-i-preserved
loop-i-preserved c =
    let there : 2 * c.loop-i.i + 1 < length c.args.bytes.now = omega (arith, length-take {A = ℤ}) in
    let fits : SFits w16 c.from_le_bytes.result = search rules in
    got_more _ _ _ c.loop-i-test.true there c.loop-i.invariant (to_z-of_z fits ∙ c.from_le_bytes.ensures ∙ ap (to_z w16) (omega arith))
