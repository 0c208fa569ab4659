use Rattle.std.proofs.Common.{arith, sym, ◌∙◌}
use Rattle.std.proofs.lemmas.Result.{err_from_is_err_and}
use lib.Seq.{length-take-le}
use Rattle.decode_print.proofs.HearingLaws.{Step, same_places, step}
use Rattle.decode_print.proofs.print_blocks.Given.{Over}
use Rattle.decode_print.proofs.print_blocks.Goals as goal
use Rattle.decode_print.proofs.print_blocks.Goals.{In-Ok-Some}

-- what the call gave
given : (g : Over) (c : In-Ok-Some g)
    → Step c.args.s.now c.args.r c.args.channel c.loop-n.decoder c.loop-n.length c.decode-call.result.decoder c.decode-call.new.samples c.in-Ok-Some.n
given g c =
    let f = rw c.in-Ok-Some.is at c.in-Ok-Some.field-0-is in
    step _ _ _ _ c.loop-n.samples c.loop-n.invariant.0.1 (omega (arith, c.loop-n.invariant.1))
    (rw (c.in-Ok-Some.is, f) at c.decode-call.ensures.answer) c.decode-call.ensures.decoder_after
    c.decode-call.ensures.samples_after

pub print_samples-requires : goal.print_samples-requires
print_samples-requires g c =
    let o = given g (goal.at.print_samples-requires g c).In-Ok-Some in
    let n = length-take-le _ _ o.fits in
    record { those = rw n o.samples; fits = omega (arith, n, o.inside, o.before.few) }

pub returns-in_err-taken : goal.returns-in_err-taken
returns-in_err-taken g c =
    let o = given g (goal.at.returns-in_err-taken g c).In-Ok-Some in
    let p = err_from_is_err_and c.from_residual.result c.from_residual.ensures.1 in
    let f = rw c.in-Ok-Some.is at c.in-Ok-Some.field-0-is in
    rw (p.1, p.2)
    (record {
      decoder = c.loop-n.decoder;
      from = c.loop-n.length;
      before = c.loop-n.invariant.0.1;
      given = c.in-Ok-Some.n;
      gave = rw (← c.loop-n.invariant.1.0) (sym (rw (c.in-Ok-Some.is, f) at c.decode-call.ensures.answer));
      among = (omega (arith, c.in_err-taken.ensures), omega (arith, c.in_err-taken.ensures, length-take-le _ _ o.fits));
      inside = o.inside;
    })

pub loop-n-smaller : goal.loop-n-smaller
loop-n-smaller g c = (given g (goal.at.loop-n-smaller g c).In-Ok-Some).less

pub loop-n-preserved : goal.loop-n-preserved
loop-n-preserved g c =
    let o = given g (goal.at.loop-n-preserved g c).In-Ok-Some in
    let i = c.loop-n.invariant in (
      (i.0.0, rw (c.in_ok-taken.ensures, length-take-le _ _ o.fits) o.before),
      (same_places c.args.s.now c.args.r c.args.channel c.loop-n.decoder c.loop-n.samples c.decode-call.ensures.samples_after ∙ i.1.0, i.1.1),
    )
