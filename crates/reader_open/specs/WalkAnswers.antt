-- What a walk returns and leaves, and the channels of the record.
use Rattle.std.specs.Prelude.{ℕ, List, [], ◌∷◌, ◌++◌, length, drop, replicate, eqb}
use Rattle.layout.specs.Choice.{pick}
use Rattle.layout.specs.Records.{Read, no_channel}
use Rattle.layout.specs.declared.Channel.{Channel}
use Rattle.reader.specs.OpeningAndReading.{Walked}
use Rattle.reader_open.specs.declared.walk.Walk.{Walk}

-- What the walk's result says: its loop start and how many blocks it has, or the refusal's number.
abbrev pub walk_of : Walked → Read Walk
walk_of (Walked.refused n) = Read.refused n
walk_of (Walked.walked os start) = Read.value (record { loop_start = start; count = length os })

-- What a walk leaves of the places that it is lent: its offsets from the first place on, the others as they were; zeros where it is refused.
unfoldable pub walked_over : (places : List ℕ) → Walked → List ℕ
walked_over ps (Walked.refused n) = replicate (length ps) 0
walked_over ps (Walked.walked os start) = os ++ drop (length os) ps

-- "channels in use (zeros beyond)"
abbrev pub in_use : (count : ℕ) → Channel → Channel → List Channel
in_use n l r = l ∷ pick (eqb n 2) r no_channel ∷ []
