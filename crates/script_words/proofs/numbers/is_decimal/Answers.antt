use mathlib.Core.Path.{◌∙◌}
use borrow.Author.Rules.{rules}
use Rattle.script_words.proofs.NumberLaws.{decimal_none, decimal_some}
use Rattle.script_words.proofs.numbers.is_decimal.Goals as goal

pub returns-then-not-is_empty : goal.returns-then-not-is_empty
returns-then-not-is_empty c = c.all_digits.ensures ∙ decimal_some _ (search rules)

pub returns-else-not-is_empty : goal.returns-else-not-is_empty
returns-else-not-is_empty c = search (decimal_none, rules)
