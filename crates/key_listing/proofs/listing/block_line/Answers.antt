use Rattle.std.proofs.Common.{arith, ap, sym, ◌<◌, length}
use Rattle.layout.specs.Records.{no_channel}
use Rattle.layout.specs.declared.Channel.{Channel}
use Rattle.reader.proofs.RecordLaws.{element, shaped}
use Rattle.key_listing.specs.declared.Stage.{Stage}
use Rattle.key_listing.proofs.ListingLaws.{block_short, block-rest}
use Rattle.key_listing.proofs.LineLaws.{line_done, line_or_lem}
use Rattle.key_listing.proofs.listing.block_line.Goals as goal

pub returns-in_default : goal.returns-in_default
returns-in_default c =
    let a = c.args in
    line_done a.s.now a.r (Stage.Blocks a.i) a.out.now a.at
    (block_short a.s.now a.r (shaped a.r _ c.well_formed.1.0).offsets c.requires.0.blocks a.i
    c.requires.1 _ (sym c.in_default.ensures))

pub returns : goal.returns
returns c =
    let a = c.args in
    let l : 0 < length a.r.channels = omega (arith, (shaped a.r _ c.well_formed.1.0).channels) in
    let f = ap (λ (x : Channel). x.format) (element a.r.channels 0 no_channel _ l) in
    line_or_lem a.s.now a.r (Stage.Blocks a.i) a.out.now a.at _ _
    (block-rest a.s.now a.r (shaped a.r _ c.well_formed.1.0).offsets c.requires.0.blocks a.i
    c.requires.1 c.in-Ok.header (sym c.in-Ok.ensures))
    (rw f c.put_block-n.ensures) _ c.put_or.ensures
