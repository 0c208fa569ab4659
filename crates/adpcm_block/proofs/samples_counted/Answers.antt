use Rattle.adpcm_block.specs.Block.{SamplesCounted}
use Rattle.adpcm_block.proofs.CountLaws.{block-count}
use Rattle.adpcm_block.proofs.samples_counted.Goals as goal

pub returns : goal.returns
unfolding SamplesCounted
returns c = block-count
