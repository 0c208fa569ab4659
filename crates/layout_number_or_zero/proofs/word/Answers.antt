use mathlib.Core.Path.{◌∙◌}
use Rattle.layout_number_or_zero.specs.NumberOrZero.{word_at}
use Rattle.layout_number_or_zero.proofs.NumberLaws.{number_read}
use Rattle.layout_number_or_zero.proofs.word.Goals as goal

pub returns : goal.returns
unfolding word_at
returns c = c.unwrap_or.ensures ∙ number_read _ _ _ 0 _ c.read.ensures
