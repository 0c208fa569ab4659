use mathlib.Core.Path.{refl, ap, ◌∙◌}
use mathlib.Core.List.{[], ◌∷◌, ◌++◌, append_assoc}
use native.Mathlib.Omega.{arith}
use Rattle.layout.specs.Records.{context_bytes, header_bytes}
use Rattle.layout.proofs.Lengths.{words_length}
use Rattle.layout_put_block.specs.HeaderPut.{header_put}
use Rattle.layout_put_block.proofs.WrittenLaws.{block_context_length, put_length_32}
use Rattle.layout.specs.Puts.{put_at}
use Rattle.layout.proofs.FieldLaws.{passed, failed}
use Rattle.layout.proofs.PutLaws.{Put, put_then, kept}
use Rattle.layout_put_block.proofs.put_header.Goals as goal

pub returns-then-inside : goal.returns-then-inside
unfolding header_put header_bytes
returns-then-inside c =
    let h = passed c.inside.ensures c.if-inside.true in
    let p0 : Put _ _ 12 _ _ = record { size = words_length _ _ _; is = c.put_words.ensures } in
    let p1 = put_then p0 (context_bytes _ ++ (0 ∷ 0 ∷ [])) (block_context_length _) c.put_block_context.ensures refl (omega arith) in
    let p2 = put_then p1 (context_bytes _ ++ (0 ∷ 0 ∷ [])) (block_context_length _) c.put_block_context-then-inside.ensures refl (omega arith) in
    let p3 = put_then p2 _ refl c.put_bytes.ensures refl (omega arith) in
    p3.is ∙ ap (put_at _ _) (simp append_assoc)

pub returns-else-inside : goal.returns-else-inside
returns-else-inside c = kept _ _ _ (put_length_32 _) (failed c.inside.ensures c.if-inside.false)
