use mathlib.Core.Path.{refl}
use native.Mathlib.Omega.{arith}
use Rattle.layout.specs.Records.{be32, magic}
use Rattle.layout.proofs.Lengths.{be32-length}
use Rattle.layout.proofs.Lengths.{magic-length}
use Rattle.layout.proofs.FieldLaws.{passed, failed}
use Rattle.layout.proofs.PutLaws.{Put, put_then, kept}
use Rattle.layout_put_header.proofs.put_magic.Goals as goal

pub returns-then-inside : goal.returns-then-inside
returns-then-inside c =
    let h = passed c.inside.ensures c.if-inside.true in
    let p0 : Put _ _ 8 magic _ = record { size = refl; is = c.put_bytes.ensures } in
    let p1 = put_then p0 (be32 _) (be32-length _) c.put_u32.ensures refl (omega arith) in
    let p2 = put_then p1 (be32 _) (be32-length _) c.put_u32-then-inside.ensures refl (omega arith) in
    p2.is

pub returns-else-inside : goal.returns-else-inside
returns-else-inside c = kept _ _ _ (magic-length _ _) (failed c.inside.ensures c.if-inside.false)
