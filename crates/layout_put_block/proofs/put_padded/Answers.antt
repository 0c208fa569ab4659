use Prim.Native.Nat.{ℕ, ◌-◌, ◌%◌}
use mathlib.Core.Path.{refl, ap, ◌∙◌}
use mathlib.Core.List.{◌++◌}
use native.Mathlib.Omega.{arith}
use lib.ListN.{length, replicate, length-replicate}
use Rattle.layout.specs.Records.{padded}
use Rattle.layout.specs.Puts.{put_at}
use Rattle.layout.proofs.Lengths.{padded-length}
use Rattle.layout.proofs.FieldLaws.{passed, failed}
use Rattle.layout.proofs.PutLaws.{Put, put_then, kept}
use Rattle.layout_put_block.proofs.FillLaws.{pad_is, pad_all}
use Rattle.layout_put_block.proofs.put_padded.Goals as goal

pub returns-then-inside : goal.returns-then-inside
unfolding padded
returns-then-inside c =
    let h = passed c.inside.ensures c.if-inside.true in
    let bytes = c.args.bytes.now in
    let pad = (32 - length bytes % 32) % 32 in
    let p0 : Put _ _ (length bytes) bytes _ = record { size = refl; is = c.put_bytes.ensures } in
    let p1 = put_then {m = pad} p0 (replicate {A = ℕ} pad 0) (length-replicate {A = ℕ} pad 0) c.put_fill.ensures refl (omega arith) in
    p1.is ∙ ap (λ (k : ℕ). put_at c.args.buf.now c.args.at (bytes ++ replicate k 0)) (pad_is (length bytes))

pub returns-else-inside : goal.returns-else-inside
returns-else-inside c =
    kept _ _ _ (padded-length _ ∙ pad_all _) (failed c.inside.ensures c.if-inside.false)
