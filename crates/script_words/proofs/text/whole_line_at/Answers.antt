use Rattle.script_words.proofs.TextLaws.{line-some, line-none}
use Rattle.script_words.proofs.text.whole_line_at.Goals as goal

pub returns-in-Some : goal.returns-in-Some
returns-in-Some c = line-some c.args.s.now c.args.at c.min.ensures c.in-Some.ensures

pub returns-in-None : goal.returns-in-None
returns-in-None c = line-none c.args.s.now c.args.at c.min.ensures c.in-None.ensures
