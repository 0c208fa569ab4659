use Rattle.fader_pcm.specs.FadedPcm.{PortionsFaded}
use Rattle.fader_pcm.proofs.PortionLaws.{portions}
use Rattle.fader_pcm.proofs.portions_faded.Goals as goal

pub returns : goal.returns
unfolding PortionsFaded
returns c = portions
