use mathlib.Core.Path.{refl}
use Rattle.writer.specs.Loading.{filled}
use Rattle.writer_finish.proofs.filled.Goals as goal

pub returns : goal.returns
unfolding filled
returns c = refl
