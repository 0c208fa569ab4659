use mathlib.Core.Path.{refl}
use native.Mathlib.Omega.{arith}
use Rattle.key_print.proofs.PortionLaws.{more-filled}
use Rattle.key_print.proofs.more.Goals as goal

pub returns : goal.returns
returns c = more-filled c.fill-filled.ensures refl (omega arith) (omega arith)
