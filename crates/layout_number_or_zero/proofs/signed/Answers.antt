use mathlib.Core.Path.{◌∙◌}
use mir.Syntax.{w16}
use mir.Facts.{to_z-of_z}
use lib.IntN.{pos}
use Rattle.layout_number_or_zero.specs.NumberOrZero.{signed_at}
use Rattle.layout_number_or_zero.proofs.NumberLaws.{number_read}
use Rattle.layout_number_or_zero.proofs.signed.Goals as goal

pub returns : goal.returns
unfolding signed_at
returns c = to_z-of_z {w = w16} (record { sfits = c.unwrap_or.type_inv }) ∙ c.unwrap_or.ensures ∙ number_read _ _ _ (pos 0) _ c.read.ensures
