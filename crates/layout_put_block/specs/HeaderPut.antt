-- A block header as it is put into a buffer.
use Rattle.std.specs.Prelude.{ℕ, ◌%◌, List}
use Rattle.layout.specs.Records.{header_bytes}
use Rattle.layout.specs.declared.BlockHeader.{BlockHeader}

-- Of the cue count the byte that it has.
unfoldable pub header_put : BlockHeader → List ℕ
header_put h =
    header_bytes (record { size = h.size; end_address = h.end_address; next_offset = h.next_offset; left = h.left; right = h.right; cues = h.cues % 256 })
