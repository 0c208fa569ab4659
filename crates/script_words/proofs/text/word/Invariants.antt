use Rattle.script_words.proofs.TextLaws.{Passing}
use Rattle.script_words.proofs.text.word.Given as goal

abbrev pub invariant-loop : goal.invariant-loop
invariant-loop l = Passing l.line l.i l.rest l.counter
