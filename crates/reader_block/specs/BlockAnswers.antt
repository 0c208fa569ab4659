-- What block read returns, of each answer of the definition.
use Rattle.std.specs.Prelude.{ℕ, ◌+◌, List, [], length, Option, Some, None}
use Rattle.layout.specs.Records.{Read}
use Rattle.reader_block.specs.declared.Block.{Block}
use Rattle.reader.specs.OpeningAndReading.{BlockAnswer}

-- The refusal's number, no block at the end, or the block, whose data reaches from start to end.
abbrev pub block_answer : BlockAnswer → Read (Option Block)
block_answer (BlockAnswer.refused n) = Read.refused n
block_answer (BlockAnswer.refused_at n j) = Read.refused n
block_answer BlockAnswer.ended = Read.value None
block_answer (BlockAnswer.gave rate f cs gain len c start bytes j) =
    Read.value (Some (record { rate = rate; format = f; coefficients = cs; gain = gain; length = len; context = c; start = start; end = start + length bytes }))

-- The position after a read at this one: "block read's 1 comes with the moved position"; 6 and the end leave it
abbrev pub block_position : (position : ℕ) → BlockAnswer → ℕ
block_position i (BlockAnswer.refused n) = i
block_position i (BlockAnswer.refused_at n j) = j
block_position i BlockAnswer.ended = i
block_position i (BlockAnswer.gave rate f cs gain len c start bytes j) = j

-- "the data as a part of the slot itself"
abbrev pub block_data : BlockAnswer → List ℕ
block_data (BlockAnswer.refused n) = []
block_data (BlockAnswer.refused_at n j) = []
block_data BlockAnswer.ended = []
block_data (BlockAnswer.gave rate f cs gain len c start bytes j) = bytes

-- where in the slot that part starts; the empty one at the slot's start
abbrev pub block_start : BlockAnswer → ℕ
block_start (BlockAnswer.refused n) = 0
block_start (BlockAnswer.refused_at n j) = 0
block_start BlockAnswer.ended = 0
block_start (BlockAnswer.gave rate f cs gain len c start bytes j) = start

-- A place in memory, a block of it and an offset there, so many bytes further on.
abbrev pub bytes_on : ℕ × ℕ → (n : ℕ) → ℕ × ℕ
bytes_on (block, offset) n = (block, n + offset)
