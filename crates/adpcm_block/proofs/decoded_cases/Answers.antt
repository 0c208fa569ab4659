use mathlib.Core.Path.{refl}
use Rattle.whole_numbers.specs.Whole.{floor_div, clamped}
use Rattle.adpcm_sample.specs.Sample.{signed_half, predicted, scale, sample}
use Rattle.adpcm_block.specs.Block.{halves, halves_decoded, pair_decoded, frames_decoded, block_decoded}
use Rattle.adpcm_block.specs.Cases.{DecodedCases}
use Rattle.adpcm_block.proofs.decoded_cases.Goals as goal

-- The cases compute.

cases : DecodedCases
unfolding floor_div clamped signed_half predicted scale sample halves halves_decoded pair_decoded frames_decoded block_decoded
cases = record { by_context = refl; sounds = refl; silent = refl; beyond = refl; header = refl; second = refl }

pub returns : goal.returns
returns c = cases
