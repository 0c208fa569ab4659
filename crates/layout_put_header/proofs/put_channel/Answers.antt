use mathlib.Core.Path.{◌≡◌, refl, ap, ◌∙◌}
use mathlib.Core.List.{◌++◌, append_assoc, flat_map}
use native.Mathlib.Omega.{arith}
use lib.ListN.{length}
use Rattle.layout.specs.Records.{be16, be32, be_z16, context_bytes, channel_bytes}
use mathlib.Core.Bool.{Bool, true, false}
use mir.Val.{bool_byte}
use Rattle.layout.specs.Choice.{pick}
use Rattle.layout.specs.Puts.{put_at}
use Rattle.layout.proofs.Lengths.{be16-length, words_length, context-length, coefficients_length, channel-length}
use Rattle.layout.proofs.FieldLaws.{passed, failed}
use Rattle.layout.proofs.PutLaws.{Put, put_then, kept}
use borrow.Author.Rules.{rules}
use Rattle.layout_put_header.proofs.put_channel.Goals as goal

looping_is : (looping : Bool) → bool_byte looping ≡ pick looping 1 0
looping_is true = refl
looping_is false = refl

pub returns-then-inside : goal.returns-then-inside
unfolding channel_bytes
returns-then-inside c =
    let h = passed c.inside.ensures c.if-inside.true in
    let s : length c.args.c.coefficients ≡ 16 = search rules in
    let p0 : Put _ _ 2 (be16 _) _ = record { size = be16-length _; is = c.put_u16.ensures } in
    let p1 = put_then p0 (be16 _) (be16-length _) c.put_u16-then-inside.ensures refl (omega arith) in
    let p2 = put_then p1 (be32 _ ++ be32 _ ++ be32 _) (words_length _ _ _) c.put_words.ensures refl (omega arith) in
    let p3 = put_then {m = 32} p2 (flat_map be_z16 _) (coefficients_length _ ∙ omega arith) c.put_coefficients.ensures refl (omega arith) in
    let p4 = put_then p3 (be16 _) (be16-length _) c.put_u16-then-inside-2.ensures refl (omega arith) in
    let p5 = put_then p4 (context_bytes _) (context-length _) c.put_context.ensures refl (omega arith) in
    p5.is ∙ ap (put_at _ _) (simp (append_assoc, c.from.ensures, looping_is, c.from-then-inside.ensures))

pub returns-else-inside : goal.returns-else-inside
returns-else-inside c = kept _ _ _ (channel-length _ (search rules)) (failed c.inside.ensures c.if-inside.false)
