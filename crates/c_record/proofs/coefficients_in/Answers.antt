use mathlib.Core.Path.{◌∙◌}
use mir.Syntax.{w16}
use mir.Facts.{to_z-of_z}
use Rattle.c_record.proofs.ReadingLaws.{signed_start, signed_again, signed_end}
use Rattle.c_record.proofs.coefficients_in.Goals as goal

pub loop-i-init : goal.loop-i-init
loop-i-init c = signed_start _ _

pub loop-i-preserved : goal.loop-i-preserved
loop-i-preserved c = signed_again _ _ _ _ _ c.loop-i.invariant c.loop-i-test.true (to_z-of_z {w = w16} (record { sfits = c.signed.type_inv }) ∙ c.signed.ensures)

pub returns : goal.returns
returns c = signed_end _ _ _ _ c.loop-i.invariant c.loop-i-test.false
