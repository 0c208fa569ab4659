use Rattle.pcm_bytes.specs.Pcm.{PcmBack}
use Rattle.pcm_bytes.proofs.GotLaws.{samples_back}
use Rattle.pcm_bytes.proofs.pcm_back.Goals as goal

pub returns : goal.returns
unfolding PcmBack
returns c = samples_back
