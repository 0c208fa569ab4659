use mathlib.Core.Path.{◌≡◌, ◌∙◌}
use lib.ListN.{length, get_or}
use lib.IntN.{pos}
use mir.Syntax.{w16}
use mir.Val.{SFits}
use mir.Facts.{to_z-of_z}
use native.Mathlib.Omega.{arith}
use Rattle.layout.proofs.FieldLaws.{passed, failed}
use Rattle.layout.proofs.PutLaws.{each_none, each_more, each_whole, kept}
use Rattle.layout.proofs.Lengths.{be_z16-length, coefficients_length}
use borrow.Author.Rules.{rules}
use Rattle.layout_put_header.proofs.put_coefficients.Goals as goal

pub loop-i-init : goal.loop-i-init
loop-i-init c =
    let n : length c.args.coefficients ≡ 16 = search rules in
    each_none (omega arith) (passed c.inside.ensures c.if-inside.true)

pub loop-i-preserved : goal.loop-i-preserved
loop-i-preserved c =
    let f : SFits w16 (get_or c.args.coefficients c.loop-i.i (pos 0)) = search rules in
    each_more c.loop-i.invariant (pos 0) be_z16-length (omega arith) (rw (to_z-of_z f) at c.put_i16.ensures)

pub returns-after-loop-i : goal.returns-after-loop-i
returns-after-loop-i c = each_whole c.loop-i.invariant (search rules) (omega arith)

pub returns-else-inside : goal.returns-else-inside
returns-else-inside c = kept _ _ _ (coefficients_length c.args.coefficients ∙ omega arith) (failed c.inside.ensures c.if-inside.false)
