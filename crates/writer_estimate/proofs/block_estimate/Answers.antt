use Prim.Native.Nat.{◌+◌, ◌*◌, ◌≤◌}
use native.Mathlib.Omega.{arith}
use Rattle.writer_estimate.proofs.EstimateCodeLaws.{most_block, is_block, block-fits}
use Rattle.layout.specs.Records.{block_header_size}
use Rattle.writer_estimate.proofs.block_estimate.Goals as goal
use Rattle.writer_estimate.proofs.block_estimate.Goals.{After-align}

few : (c : After-align) → block_header_size + c.args.channels * c.align.result ≤ most_block
few c = block-fits _ _ _ _ c.adpcm_bytes.ensures c.align.ensures c.requires

pub overflow_mul-data : goal.overflow_mul-data
overflow_mul-data c = omega (arith, few c)

pub overflow_add-size : goal.overflow_add-size
overflow_add-size c = omega (arith, few c)

pub returns : goal.returns
returns c = is_block _ _ _ _ c.adpcm_bytes.ensures c.align.ensures c.requires
