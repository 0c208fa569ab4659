use Rattle.script_words.proofs.NumberLaws.{Reading}
use Rattle.script_words.proofs.numbers.unsigned.Given as goal

abbrev pub invariant-loop-byte : goal.invariant-loop-byte
invariant-loop-byte l = Reading l.max l.word l.value l.byte-index
