use Rattle.script_words.proofs.TextLaws.{rest_from, next-none, next-some, next_last}
use Rattle.script_words.proofs.text.next_line.Goals as goal

pub returns-then-at-s-clause-s_value : goal.returns-then-at-s-clause-s_value
returns-then-at-s-clause-s_value c = next-none _ _ c.if-at-s.true

pub returns-in-Some-clause-s_value : goal.returns-in-Some-clause-s_value
returns-in-Some-clause-s_value c = next-some c.args.s.now c.args.at (rw rest_from at c.in-Some.ensures)

pub returns-in-None-clause-s_value : goal.returns-in-None-clause-s_value
returns-in-None-clause-s_value c = next_last c.args.s.now c.args.at (rw rest_from at c.in-None.ensures)
