use Rattle.power_cut.proofs.Whole.{power_cut}
use Rattle.power_cut.proofs.ConsequenceLaws.{each_block_back, no_block-back}
use Rattle.power_cut_decoding.proofs.DecodedLaws.{each_block_decoded, no_block_decoded, whole_channel_decoded}
use Rattle.power_cut_decoding.proofs.decoded_as_pushed.Goals as goal

pub returns : goal.returns
returns c =
    let each = each_block_decoded (each_block_back power_cut) in
    let none = no_block_decoded (no_block-back power_cut) in
    record {
      each_block_decoded = each;
      no_block_decoded = none;
      whole_channel_decoded = whole_channel_decoded each none;
    }
