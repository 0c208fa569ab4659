-- Where a channel's reading stands.
use Rattle.std.specs.Prelude.{ℕ, List}
use Rattle.reader.specs.OpeningAndReading.{block_read}
use Rattle.reader.specs.declared.HpsReader.{HpsReader}
use Rattle.reader_block.specs.BlockAnswers.{block_position}

-- The position after the block read at it: "the position moves on, then 1 if header or data leaves the slot"; the end and 6 leave it.
abbrev pub position_after : List ℕ → HpsReader → (channel position : ℕ) → ℕ
position_after s r ch i = block_position i (block_read s r ch i)
