use Rattle.std.proofs.Common.{ap, ◌∙◌, arith}
use Rattle.layout.specs.Records.{no_channel}
use Rattle.layout.specs.declared.Channel.{Channel}
use Rattle.reader.proofs.RecordLaws.{shaped, element}
use Rattle.reader_cues.proofs.NextCueLaws.{step_with}
use Rattle.reader_cues.proofs.next_cue.Goals as goal

pub returns : goal.returns
returns c =
    let r = c.args.r in
    let two = (shaped r _ c.well_formed.1.0).channels in
    c.cue_from.ensures ∙ step_with _ r _ _ (ap (λ (x : Channel). x.format) (element r.channels 0 no_channel _ (omega arith)))
