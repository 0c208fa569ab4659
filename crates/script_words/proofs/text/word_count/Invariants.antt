use Rattle.script_words.proofs.TextLaws.{Counting}
use Rattle.script_words.proofs.text.word_count.Given as goal

abbrev pub invariant-loop-byte : goal.invariant-loop-byte
invariant-loop-byte l = Counting l.line l.count l.apart l.byte-index
