use mathlib.Core.Path.{refl}
use Rattle.layout.specs.Records.{no_channel}
use Rattle.layout.proofs.no_channel.Goals as goal

pub returns : goal.returns
unfolding no_channel
returns c = refl
