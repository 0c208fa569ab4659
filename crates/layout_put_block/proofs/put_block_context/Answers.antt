use mathlib.Core.Path.{refl}
use mathlib.Core.List.{[], ◌∷◌}
use native.Mathlib.Omega.{arith}
use Rattle.layout.specs.Records.{be16, context_bytes}
use Rattle.layout.proofs.Lengths.{context-length}
use Rattle.layout_put_block.proofs.WrittenLaws.{block_context_length}
use Rattle.layout.proofs.FieldLaws.{passed, failed}
use Rattle.layout.proofs.PutLaws.{Put, put_then, kept}
use Rattle.layout_put_block.proofs.put_block_context.Goals as goal

pub returns-then-inside : goal.returns-then-inside
unfolding be16
returns-then-inside c =
    let h = passed c.inside.ensures c.if-inside.true in
    let p0 : Put _ _ 6 (context_bytes _) _ = record { size = context-length _; is = c.put_context.ensures } in
    let p1 = put_then p0 (0 ∷ 0 ∷ []) refl c.put_u16.ensures refl (omega arith) in
    p1.is

pub returns-else-inside : goal.returns-else-inside
returns-else-inside c = kept _ _ _ (block_context_length _) (failed c.inside.ensures c.if-inside.false)
