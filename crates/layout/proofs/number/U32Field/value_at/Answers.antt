use Rattle.std.proofs.Common.{rules}
use Rattle.layout.specs.Records.{u16_at, u32_at}
use Rattle.layout.proofs.number.U32Field.value_at.Goals as goal

pub returns : goal.returns
unfolding u16_at u32_at
returns c = search rules
