use Prim.Native.Nat.{◌≤◌, ◌<◌}
use native.Mathlib.Omega.{arith}
use lib.ListN.{length}
use Rattle.layout.specs.Records.{adpcm_bytes, adpcm_samples}
use Rattle.adpcm_block.proofs.IntoLaws.{data_short, places_few, refused_leaves, decoded_fills}
use Rattle.adpcm_block.proofs.decode_block.Goals as goal
use Rattle.adpcm_block.proofs.decode_block.Goals.{Else-block-bytes, Else-samples-count}

pub returns-then-block-bytes : goal.returns-then-block-bytes
returns-then-block-bytes c =
    let a = c.args in
    let h : length a.block.now < adpcm_bytes a.n = omega (arith, c.adpcm_bytes-bytes.ensures, c.if-block-bytes.true) in
    let all = refused_leaves _ _ _ _ _ _ (data_short _ a.coefficients.now a.context a.n a.block.now h) in
    record {
      result_value = all.0;
      samples_after = all.1;
    }

-- all of the data is there

whole : (c : Else-block-bytes) → adpcm_bytes c.args.n ≤ length c.args.block.now
whole c = omega (arith, c.adpcm_bytes-bytes.ensures, c.if-block-bytes.false)

pub returns-then-samples-count : goal.returns-then-samples-count
returns-then-samples-count c =
    let a = c.args in
    let l : length a.samples.now < adpcm_samples a.n = omega (arith, c.adpcm_samples-count.ensures, c.if-samples-count.true) in
    let all = refused_leaves _ _ _ _ _ _ (places_few _ a.coefficients.now a.context a.n a.block.now (whole (goal.at.returns-then-samples-count c).Else-block-bytes) l) in
    record {
      result_value = all.0;
      samples_after = all.1;
    }

-- and a place for each sample

room : (c : Else-samples-count) → adpcm_samples c.args.n ≤ length c.args.samples.now
room c = omega (arith, c.adpcm_samples-count.ensures, c.if-samples-count.false)

pub returns : goal.returns
returns c =
    let a = c.args in
    let q = c.decode_frames in
    let all = decoded_fills _ a.coefficients.now a.context a.n a.block.now (whole (goal.at.returns c).Else-block-bytes) (room (goal.at.returns c).Else-samples-count) a.samples.now q.ensures.value q.ensures.samples_after in
    record {
      result_value = all.0;
      samples_after = all.1;
    }

pub decode_frames-requires : goal.decode_frames-requires
decode_frames-requires c = (whole (goal.at.decode_frames-requires c).Else-block-bytes, room (goal.at.decode_frames-requires c).Else-samples-count)
