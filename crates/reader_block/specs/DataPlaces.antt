-- Where the data of a block lies.
use Rattle.std.specs.Prelude.{ℕ, ◌+◌, List, length, leb}
use Rattle.layout.specs.Choice.{pick}
use Rattle.layout.specs.Records.{Read, on, read_header, length_in, address_to_byte_up}
use Rattle.layout.specs.declared.DspFormat.{DspFormat}
use Rattle.layout.specs.declared.FrameContext.{FrameContext}
use Rattle.reader_block.specs.declared.data_places.BlockData.{BlockData}
use Rattle.reader.specs.OpeningAndReading.{context_in, data_start}

-- Where the data of a block lies, in a slot of this length; "1 if .. data leaves the slot".
abbrev pub data_placed : (slot start bytes data_length : ℕ) → FrameContext → Read BlockData
data_placed slot start n len c =
    pick (leb (start + n) slot) (Read.value (record { length = len; context = c; start = start; end = start + n })) (Read.refused 1)

-- The same of the block at an offset, in a channel of this format.
unfoldable pub data_found : List ℕ → (offset channel : ℕ) → DspFormat → Read BlockData
data_found s o ch f =
    on (read_header s o) Read.refused (λ h.
    data_placed (length s) (data_start o h ch (address_to_byte_up f (length_in h))) (address_to_byte_up f (length_in h)) (length_in h) (context_in h ch))
