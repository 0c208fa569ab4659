use mathlib.Core.Path.{refl}
use native.Mathlib.Omega.{arith}
use Rattle.layout.proofs.FieldLaws.{passed}
use Rattle.layout.proofs.PutLaws.{putting_none, putting_more, putting_all}
use Rattle.layout_put.proofs.put_bytes.Goals as goal

pub loop-j-init : goal.loop-j-init
loop-j-init c = putting_none refl (passed c.inside.ensures c.if-inside.true)

pub loop-j-preserved : goal.loop-j-preserved
loop-j-preserved c = putting_more c.loop-j.invariant (omega arith)

pub returns-after-loop-j : goal.returns-after-loop-j
returns-after-loop-j c = putting_all c.loop-j.invariant (omega arith)
