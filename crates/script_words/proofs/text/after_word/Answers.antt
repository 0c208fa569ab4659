use mathlib.Core.Path.{◌∙◌}
use Rattle.script_words.proofs.TextLaws.{rest_from, word_after, word_last}
use Rattle.script_words.proofs.text.after_word.Goals as goal

pub returns-in-Some : goal.returns-in-Some
returns-in-Some c = rest_from c.from_word-tail.result.now c.in-Some.n ∙ word_after _ c.from_word-tail.ensures c.in-Some.ensures

pub returns-in-None : goal.returns-in-None
returns-in-None c = word_last _ c.from_word-tail.ensures c.in-None.ensures
