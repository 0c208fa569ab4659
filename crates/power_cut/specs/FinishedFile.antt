-- The finished file's bytes, from the book alone (document 01, "Records" and "Loading").
use Rattle.std.specs.Prelude.{ℕ, ◌+◌, List, [], ◌∷◌, ◌++◌, length, get_or, ltb}
use Rattle.layout.specs.Choice.{pick}
use Rattle.layout.specs.Records.{end_block_offset}
use Rattle.writer.specs.Loading.{points, bytes_of, header_for}
use Rattle.power_cut.specs.LoadingBook.{Block, Book, lengths_of, end_of, first_left, first_right, loop_block, offsets_of}

-- The offset of block i.
abbrev pub offset_at : ℕ → List Block → ℕ
offset_at i bs = get_or (offsets_of bs) i 0

-- "Next offset is the following block's; in the last block the loop block's, else 4,294,967,295."
unfoldable pub next_of : Book → Block → ℕ
next_of b k = pick k.push.last (pick (ltb (loop_block b) (length b.blocks)) (offset_at (loop_block b) b.blocks) end_block_offset) (end_of k)

-- A block's bytes, with this next offset and ids from n on.
abbrev pub block_in : (next id : ℕ) → Block → List ℕ
block_in next n k = bytes_of next k.base n k.cues k.push

-- The blocks one after the other, "ids 1, 2, ... over the stream".
unfoldable pub blocks_bytes : (next : Block → ℕ) → (id : ℕ) → List Block → List ℕ
blocks_bytes next n [] = []
blocks_bytes next n (k ∷ ks) = block_in (next k) n k ++ blocks_bytes next (n + points k.cues) ks

-- The file header.
unfoldable pub file_header : Book → List ℕ
file_header b = header_for b.channels (lengths_of b.blocks) (first_left b.blocks) (first_right b.blocks)

-- HpsWriter's file: the header, then the blocks.
unfoldable pub file_bytes : Book → List ℕ
file_bytes b = file_header b ++ blocks_bytes (next_of b) 1 b.blocks
