-- Opening and reading (document 01): opening, block read, addresses remaining.
use Rattle.std.specs.Prelude.{ℕ, zero, suc, ◌+◌, ◌-◌, ◌≤◌, List, [], ◌∷◌, ◌++◌, length, take, drop, get_or, replicate, ltb, leb, eqb, ℤ, Option, Some, None}
use Rattle.layout.specs.Choice.{pick}
use Rattle.layout.specs.Lists.{first_index}
use Rattle.layout.specs.Records.{u32_at, Read, field, on, padded_size, read_channel, no_channel, read_magic, first_block_offset, end_block_offset, read_header, length_in, address_to_byte_up, data_after}
use Rattle.layout.specs.Refusals.{wrong_count, block_limit, slot_limit}
use Rattle.layout.specs.declared.FrameContext.{FrameContext}
use Rattle.layout.specs.declared.DspFormat.{DspFormat}
use Rattle.layout.specs.declared.Channel.{Channel}
use Rattle.layout.specs.declared.BlockHeader.{BlockHeader}
use Rattle.reader.specs.declared.HpsReader.{HpsReader}

-- ---- The walk

-- What the walk gives: a refusal, or the offsets and the loop start.
pub data Walked : Type 0 where
  refused : ℕ → Walked
  walked : (offsets : List ℕ) → Option ℕ → Walked

-- "an offset already walked": its index, the length where there is none
abbrev pub first_at : ℕ → List ℕ → ℕ
first_at x ys = first_index (λ y. eqb y x) ys

-- "it reads block headers with their filled cues: next offset 4,294,967,295 ends with no loop; an offset already walked ends with that block's index as
-- loop start; else the walk goes there. .. A 513th block is refused before it is read.": from an offset, with n blocks left to read and the offsets walked before it
unfoldable pub walk_from : (n : ℕ) → List ℕ → (seen : List ℕ) → (at : ℕ) → Walked
walk_from zero s seen at = refused 5
walk_from (suc n) s seen at =
    on (read_header s at) refused (λ h.
    pick (eqb h.next_offset end_block_offset) (walked (seen ++ (at ∷ [])) None)
    (pick (ltb (first_at h.next_offset (seen ++ (at ∷ []))) (length (seen ++ (at ∷ []))))
    (walked (seen ++ (at ∷ [])) (Some (first_at h.next_offset (seen ++ (at ∷ [])))))
    (walk_from n s (seen ++ (at ∷ [])) h.next_offset)))

-- ---- Opening

-- "The answer, the opening record": or a refusal's number
pub data Opened : Type 0 where
  refused : (number : ℕ) → Opened
  opened : HpsReader → Opened

-- What follows the walk.
abbrev pub on_walk : Walked → (List ℕ → Option ℕ → Opened) → Opened
on_walk (refused n) f = Opened.refused n
on_walk (walked os start) f = f os start

-- "holds rate, channel count, channels in use (zeros beyond), block count, block offsets (zeros beyond), loop start or none"
unfoldable pub made : (rate count : ℕ) → Channel → Channel → List ℕ → Option ℕ → HpsReader
made rate count l r os start =
    record { rate = rate; count = count; channels = l ∷ pick (eqb count 2) r no_channel ∷ []; blocks = length os; offsets = os ++ replicate (block_limit - length os) 0; loop_start = start }

-- "Opening checks 7, then reads fields in file order; .. Both channels' formats are checked, also in mono. From 128 it reads block headers"
unfoldable pub opening : List ℕ → Opened
opening s =
    pick (ltb slot_limit (length s)) (Opened.refused 7)
    (on (read_magic s) Opened.refused (λ right.
    on (field s 12 (u32_at s 8)) Opened.refused (λ rate.
    on (field s 16 (u32_at s 12)) Opened.refused (λ count.
    pick (wrong_count count) (Opened.refused 3)
    (on (read_channel s 16) Opened.refused (λ l.
    on (read_channel s 72) Opened.refused (λ r.
    on_walk (walk_from block_limit s [] first_block_offset) (λ os start.
    Opened.opened (made rate count l r os start)))))))))

-- "what holds of all such records may be a premise on them": of every record that an opening gives
pub record Readable (r : HpsReader) : Type 0 where
  pub channels : r.count ≤ 2
  pub blocks : r.blocks ≤ block_limit

-- ---- Block read

-- "It gives the record's rate, format, coefficients and gain, the block's length and context, and the data as a part of the slot itself": where the part
-- starts, and its bytes; "block read's 1 comes with the moved position"
pub data BlockAnswer : Type 0 where
  refused : (number : ℕ) → BlockAnswer
  refused_at : (number position : ℕ) → BlockAnswer
  ended : BlockAnswer
  gave : (rate : ℕ) (format : DspFormat) (coefficients : List ℤ) (gain data_length : ℕ) (context : FrameContext) (start : ℕ) (bytes : List ℕ) (position : ℕ) → BlockAnswer

-- The record's channel.
abbrev pub channel_in : HpsReader → ℕ → Channel
channel_in r ch = get_or r.channels ch no_channel

-- The record's offset of block i.
abbrev pub offset_in : HpsReader → ℕ → ℕ
offset_in r i = get_or r.offsets i 0

-- The block's context in a channel.
abbrev pub context_in : BlockHeader → ℕ → FrameContext
context_in h ch = pick (eqb ch 1) h.right h.left

-- The bytes of the block's data in a channel, "bytes counted in channel 1's own format"
abbrev pub bytes_in : HpsReader → BlockHeader → (channel : ℕ) → ℕ
bytes_in r h ch = address_to_byte_up (channel_in r ch).format (length_in h)

-- "Then each channel's data": after the filled cues; "Channel 1's data starts P(bytes) after channel 0's"
unfoldable pub data_start : (offset : ℕ) → BlockHeader → (channel bytes : ℕ) → ℕ
data_start o h ch n = o + data_after h.cues + pick (eqb ch 1) (padded_size n) 0

-- "the data as a part of the slot itself"; "1 if header or data leaves the slot"
unfoldable pub data_part : List ℕ → (start n : ℕ) → Read (List ℕ)
data_part s start n = field s (start + n) (take n (drop start s))

-- "Block read, for a channel and a position: 6; past the last block it is the end; else the position moves on, then 1 if header or data leaves the slot."
unfoldable pub block_read : List ℕ → HpsReader → (channel position : ℕ) → BlockAnswer
block_read s r ch i =
    pick (leb r.count ch) (BlockAnswer.refused 6)
    (pick (leb r.blocks i) BlockAnswer.ended
    (on (read_header s (offset_in r i)) (λ n. BlockAnswer.refused_at n (i + 1)) (λ h.
    on (data_part s (data_start (offset_in r i) h ch (bytes_in r h ch)) (bytes_in r h ch)) (λ n. BlockAnswer.refused_at n (i + 1)) (λ bytes.
    BlockAnswer.gave r.rate (channel_in r ch).format (channel_in r ch).coefficients (channel_in r ch).gain (length_in h) (context_in h ch)
    (data_start (offset_in r i) h ch (bytes_in r h ch)) bytes (i + 1)))))

-- ---- Addresses remaining

-- "the sum of lengths ..; the call gives 1 if .."
pub data Remaining : Type 0 where
  refused : (number : ℕ) → Remaining
  addresses : (sum : ℕ) → Remaining

-- One more length.
abbrev pub plus : ℕ → Remaining → Remaining
plus n (refused k) = refused k
plus n (addresses m) = addresses (n + m)

-- The offsets of the blocks from i on.
abbrev pub offsets_from : HpsReader → ℕ → List ℕ
offsets_from r i = drop i (take r.blocks r.offsets)

-- "the sum of lengths over the blocks ..; the call gives 1 if one of these headers, filled cues included, leaves the slot": over these offsets
unfoldable pub lengths_at : List ℕ → List ℕ → Remaining
lengths_at s [] = addresses 0
lengths_at s (o ∷ os) = on (read_header s o) Remaining.refused (λ h. plus (length_in h) (lengths_at s os))

-- "The addresses remaining from a position are the sum of lengths over the blocks from there on, 0 past the last"
unfoldable pub data_remaining : List ℕ → HpsReader → (position : ℕ) → Remaining
data_remaining s r i = lengths_at s (offsets_from r i)
