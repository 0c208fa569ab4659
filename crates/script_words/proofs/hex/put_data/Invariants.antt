use Rattle.layout.proofs.PutLaws.{Putting}
use Rattle.script_words.specs.Data.{bytes_said}
use Rattle.script_words.proofs.hex.put_data.Given as goal

abbrev pub invariant-loop-j : goal.invariant-loop-j
invariant-loop-j l =
    Putting l.initial.out l.at (bytes_said l.word) l.n l.out l.j
