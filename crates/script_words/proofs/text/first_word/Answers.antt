use Rattle.script_words.proofs.TextLaws.{word_before, word_whole}
use Rattle.script_words.proofs.text.first_word.Goals as goal

pub returns-in-Some : goal.returns-in-Some
returns-in-Some c = word_before _ c.from_word-tail.ensures c.in-Some.ensures

pub returns-in-None : goal.returns-in-None
returns-in-None c = word_whole _ c.from_word-tail.ensures c.in-None.ensures
