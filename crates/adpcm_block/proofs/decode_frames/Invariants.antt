use Rattle.adpcm_block.specs.Block.{block_decoded}
use Rattle.adpcm_block.proofs.FrameLaws.{Framing}
use Rattle.adpcm_block.proofs.decode_frames.Given as goal

abbrev pub invariant-loop-left : goal.invariant-loop-left
invariant-loop-left l =
    Framing l.block l.coefficients l.n (block_decoded l.coefficients l.initial.context l.n l.block) l.initial.samples l.samples l.context l.left l.first l.at

abbrev pub decreases-loop-left : goal.decreases-loop-left
decreases-loop-left l = l.left
