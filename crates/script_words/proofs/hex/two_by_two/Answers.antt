use mathlib.Core.Path.{◌∙◌}
use borrow.Author.Rules.{rules}
use Rattle.script_words.proofs.DataLaws.{odd, pairs_all}
use Rattle.script_words.proofs.hex.two_by_two.Goals as goal

pub returns-then-word-eq0 : goal.returns-then-word-eq0
returns-then-word-eq0 c = c.all_digits.ensures ∙ pairs_all _ c.if-word-eq0.true

pub returns-else-word-eq0 : goal.returns-else-word-eq0
returns-else-word-eq0 c = search (odd, rules)
