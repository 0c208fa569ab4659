use mathlib.Core.Path.{◌≡◌, refl, ap, ◌∙◌}
use mathlib.Core.List.{◌++◌, append_assoc}
use native.Mathlib.Omega.{arith}
use lib.ListN.{length}
use Rattle.layout.specs.Records.{be32, magic, channel_bytes, file_header_bytes}
use Rattle.layout.specs.Puts.{put_at}
use Rattle.layout.proofs.Lengths.{channel-length, file_header-length}
use Rattle.layout.proofs.FieldLaws.{passed, failed}
use Rattle.layout.proofs.PutLaws.{Put, put_then, kept}
use Rattle.layout.proofs.Lengths.{magic-length}
use borrow.Author.Rules.{rules}
use Rattle.layout_put_header.proofs.put_file_header.Goals as goal

pub returns-then-inside : goal.returns-then-inside
unfolding file_header_bytes
returns-then-inside c =
    let h = passed c.inside.ensures c.if-inside.true in
    let l : length c.args.left.coefficients ≡ 16 = search rules in
    let r : length c.args.right.coefficients ≡ 16 = search rules in
    let p0 : Put _ _ 16 (magic ++ be32 _ ++ be32 _) _ = record { size = magic-length _ _; is = c.put_magic.ensures } in
    let p1 = put_then p0 (channel_bytes _) (channel-length _ l) c.put_channel.ensures refl (omega arith) in
    let p2 = put_then p1 (channel_bytes _) (channel-length _ r) c.put_channel-then-inside.ensures refl (omega arith) in
    p2.is ∙ ap (put_at _ _) (simp append_assoc)

pub returns-else-inside : goal.returns-else-inside
returns-else-inside c = kept _ _ _ (file_header-length _ _ _ _ (search rules) (search rules)) (failed c.inside.ensures c.if-inside.false)
