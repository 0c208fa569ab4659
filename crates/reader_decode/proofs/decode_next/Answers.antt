use Rattle.std.proofs.Common.{Ok}
use mathlib.Core.Path.{sym, ap, ◌∙◌}
use lib.ListN.{length}
use Rattle.layout.specs.declared.Channel.{Channel}
use Rattle.layout.proofs.FieldLaws.{passed_on}
use Rattle.layout.specs.Answers.{says}
use Rattle.reader.specs.OpeningAndReading.{block_read}
use Rattle.adpcm_block.proofs.IntoLaws.{context-given}
use Rattle.reader_decode.proofs.DecodingLaws.{early_refused, early-ended, early-block, block_refused, block-ended, there, out, at_end, undecoded, decoded}
use Rattle.reader_decode.proofs.decode_next.Goals as goal

pub returns-in_err-due : goal.returns-in_err-due
returns-in_err-due c =
    let all = out c.args.samples.now (early_refused c.args.s.now c.args.r c.args.channel c.args.decoder.position (length c.args.samples.now) _ (ap (λ (x : Channel). x.format) (sym c.channel_of-side.ensures)) c.in_err-due.ensures) in
    record { value = rw (passed_on _ _ c.from_residual.ensures.1) all.0; samples_after = all.1 }

pub returns-then-not-due : goal.returns-then-not-due
returns-then-not-due c =
    let all = at_end c.args.samples.now (early-ended c.args.s.now c.args.r c.args.channel c.args.decoder.position (length c.args.samples.now) _ (ap (λ (x : Channel). x.format) (sym c.channel_of-side.ensures)) c.in_ok-due.ensures c.if-not-due.true) in
    record { value = all.0; samples_after = all.1 }

pub returns-in_err-answer : goal.returns-in_err-answer
returns-in_err-answer c =
    let g = rw c.in_err-answer.was at c.read_block-call.ensures.answer in
    let all = out c.args.samples.now
    (early-block c.args.s.now c.args.r c.args.channel c.args.decoder.position (length c.args.samples.now) _ (ap (λ (x : Channel). x.format) (sym c.channel_of-side.ensures)) c.in_ok-due.ensures
    ∙ block_refused (block_read c.args.s.now c.args.r c.args.channel c.args.decoder.position) (length c.args.samples.now) g) in
    record { value = rw (passed_on _ _ c.from_residual-in_err-answer.ensures.1) all.0; samples_after = all.1 }

pub returns-in_default : goal.returns-in_default
returns-in_default c =
    let g = rw (c.in_ok-answer.was, c.in_default.is) at c.read_block-call.ensures.answer in
    let all = at_end c.args.samples.now
    (early-block c.args.s.now c.args.r c.args.channel c.args.decoder.position (length c.args.samples.now) _ (ap (λ (x : Channel). x.format) (sym c.channel_of-side.ensures)) c.in_ok-due.ensures
    ∙ block-ended (block_read c.args.s.now c.args.r c.args.channel c.args.decoder.position) (length c.args.samples.now) g) in
    record { value = all.0; samples_after = all.1 }

pub returns-in_err-after : goal.returns-in_err-after
returns-in_err-after c =
    let e = there c.args.s.now c.args.r c.args.channel c.args.decoder.position (length c.args.samples.now) (early-block c.args.s.now c.args.r c.args.channel c.args.decoder.position (length c.args.samples.now) _ (ap (λ (x : Channel). x.format) (sym c.channel_of-side.ensures)) c.in_ok-due.ensures)
    c.read_block-call.ensures.answer (ap says (c.in_ok-answer.was ∙ ap Ok c.in-Some.is)) c.block_data-data.ensures.0 c.read_block-call.ensures.position_after in
    let all = undecoded c.args.samples.now _ _ e c.in_err-after.ensures.result_value c.in_err-after.ensures.samples_after in
    record { value = rw (passed_on _ _ c.from_residual-in_err-after.ensures.1) all.0; samples_after = all.1 }

pub returns : goal.returns
returns c =
    let b = c.in-Some.block in
    let e = there c.args.s.now c.args.r c.args.channel c.args.decoder.position (length c.args.samples.now) (early-block c.args.s.now c.args.r c.args.channel c.args.decoder.position (length c.args.samples.now) _ (ap (λ (x : Channel). x.format) (sym c.channel_of-side.ensures)) c.in_ok-due.ensures)
    c.read_block-call.ensures.answer (ap says (c.in_ok-answer.was ∙ ap Ok c.in-Some.is)) c.block_data-data.ensures.0 c.read_block-call.ensures.position_after in
    let all = decoded c.args.samples.now _ _ e (context-given (length c.args.samples.now) b.coefficients b.context b.length _ c.in_ok-after.ensures.result_value)
    c.adpcm_samples.ensures c.in_ok-after.ensures.samples_after in
    record { value = all.0; samples_after = all.1 }
