use Rattle.script_words.proofs.TextLaws.{ending_none, ending_at}
use Rattle.script_words.proofs.text.whole_lines.Goals as goal

pub returns-in-Some : goal.returns-in-Some
returns-in-Some c = let e = c.in-Some.ensures in ending_at _ _ e.0 e.1 e.2

pub returns-in-None : goal.returns-in-None
returns-in-None c = ending_none _ c.in-None.ensures
