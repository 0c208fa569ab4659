use Rattle.std.proofs.Common.{rules}
use Rattle.layout.specs.Records.{u16_at}
use Rattle.layout.proofs.number.U16Field.value_at.Goals as goal

pub returns : goal.returns
unfolding u16_at
returns c = search rules
