use mathlib.Core.Path.{◌∙◌}
use borrow.Author.Rules.{rules}
use Rattle.script_words.proofs.DataLaws.{no_data, one_byte, some_bytes}
use Rattle.script_words.proofs.hex.is_data.Goals as goal

pub returns-in-empty : goal.returns-in-empty
returns-in-empty c = no_data _ (search rules)

pub returns-in-len1 : goal.returns-in-len1
returns-in-len1 c = one_byte _ (search rules)

pub returns-in_default : goal.returns-in_default
returns-in_default c = c.two_by_two.ensures ∙ some_bytes _ (search rules)
