use mathlib.Core.Path.{◌∙◌}
use Rattle.script_words.proofs.TextLaws.{rest_from, word_at, no_letter}
use Rattle.script_words.proofs.text.from_word.Goals as goal

pub returns-in-Some : goal.returns-in-Some
returns-in-Some c = rest_from c.args.line.now c.in-Some.n ∙ word_at _ c.in-Some.ensures

pub returns-in-None : goal.returns-in-None
returns-in-None c = no_letter _ c.in-None.ensures
