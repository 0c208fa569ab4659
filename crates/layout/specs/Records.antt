-- Records (document 01): each record as it is written, and as it is read at an offset of a slot; lengths, bytes and samples.
use Rattle.std.specs.Prelude.{ℕ, zero, suc, ◌+◌, ◌-◌, ◌*◌, ◌/◌, ◌%◌, not, false, length, get_or, take, replicate, ltb, leb, eqb, ℤ, pos, negsuc}
use mathlib.Core.List.{List, [], ◌∷◌, ◌++◌, flat_map}
use Rattle.std.specs.Int.{w16, w32}
use Rattle.std.proofs.Common.{of_z, to_z}
use Rattle.layout.specs.Choice.{pick}
use Rattle.layout.specs.Lists.{sum, same}
use Rattle.layout.specs.declared.FrameContext.{FrameContext}
use Rattle.layout.specs.declared.DspFormat.{DspFormat}
use Rattle.layout.specs.declared.DspFormat.TheVariants.{Adpcm, Pcm16, Pcm8}
use Rattle.layout.specs.declared.Channel.{Channel}
use Rattle.layout.specs.declared.CuePoint.{CuePoint}
use Rattle.layout.specs.declared.BlockHeader.{BlockHeader}

-- ---- Fields

-- "Fields are big-endian.": u16
unfoldable pub be16 : ℕ → List ℕ
be16 x = x / 256 % 256 ∷ x % 256 ∷ []

-- u16, read
unfoldable pub u16_at : List ℕ → ℕ → ℕ
u16_at s at = get_or s at 0 * 256 + get_or s (at + 1) 0

-- "Fields are big-endian.": u32
unfoldable pub be32 : ℕ → List ℕ
be32 x = x / 16777216 % 256 ∷ x / 65536 % 256 ∷ x / 256 % 256 ∷ x % 256 ∷ []

-- u32, read
unfoldable pub u32_at : List ℕ → ℕ → ℕ
u32_at s at = u16_at s at * 65536 + u16_at s (at + 2)

-- i16: the bits of a signed number
unfoldable pub be_z16 : ℤ → List ℕ
be_z16 z = be16 (of_z w16 z)

-- i16, read
abbrev pub i16_at : List ℕ → ℕ → ℤ
i16_at s at = to_z w16 (u16_at s at)

-- "16 i16 coefficients", read: n signed numbers from a place on
unfoldable pub i16s : List ℕ → ℕ → ℕ → List ℤ
i16s s at zero = []
i16s s at (suc n) = i16_at s at ∷ i16s s (at + 2) n

-- What a read gives: a refusal's number, or a value.
pub data Read (A : Type 0) : Type 0 where
  refused : ℕ → Read A
  value : A → Read A

-- "the first field not wholly in the slot refuses with 1": a field that ends before a place
unfoldable pub field : {A : Type 0} → List ℕ → (past : ℕ) → A → Read A
field s past a = pick (leb past (length s)) (value a) (refused 1)

-- What follows a read.
abbrev pub on : {A B : Type 0} → Read A → (ℕ → B) → (A → B) → B
on (refused n) f g = f n
on (value a) f g = g a

-- "a multiple of 32"
abbrev pub alignment : ℕ
alignment = 32

-- "P(n) is the least multiple of 32 not below n."
unfoldable pub padded_size : ℕ → ℕ
padded_size n = (n + (alignment - 1)) / alignment * alignment

-- ---- Context

-- "Context, 6 bytes: u16 predictor and scale, two i16 last samples."
unfoldable pub context_bytes : FrameContext → List ℕ
context_bytes c = be16 c.predictor_and_scale ++ be_z16 c.last ++ be_z16 c.oldest

-- The same, read.
unfoldable pub context_at : List ℕ → ℕ → FrameContext
context_at s at = record { predictor_and_scale = u16_at s at; last = i16_at s (at + 2); oldest = i16_at s (at + 4) }

-- A context of zeros.
abbrev pub zero_context : FrameContext
zero_context = record { predictor_and_scale = 0; last = pos 0; oldest = pos 0 }

-- ---- Channel

-- "In the format field 0 is ADPCM, 10 is PCM16 and 25 is PCM8."
abbrev pub format_number : DspFormat → ℕ
format_number Adpcm = 0
format_number Pcm16 = 10
format_number Pcm8 = 25

-- The same, read; "4 format unknown"
abbrev pub format_of : ℕ → Read DspFormat
format_of n = pick (eqb n 0) (value Adpcm) (pick (eqb n 10) (value Pcm16) (pick (eqb n 25) (value Pcm8) (refused 4)))

-- "two channels of 56 bytes"
abbrev pub channel_size : ℕ
channel_size = 56

-- "Channel: u16 looping (nonzero is true), u16 format, u32 loop address, u32 end address, u32 current address, 16 i16 coefficients, u16 gain, context."
unfoldable pub channel_bytes : Channel → List ℕ
channel_bytes c =
    be16 (pick c.looping 1 0) ++ be16 (format_number c.format) ++ be32 c.loop_address ++ be32 c.end_address ++ be32 c.current_address
    ++ flat_map be_z16 c.coefficients ++ be16 c.gain ++ context_bytes c.context

-- The same, read, with its format.
unfoldable pub channel_at : List ℕ → ℕ → DspFormat → Channel
channel_at s at f =
    record {
      looping = not (eqb (u16_at s at) 0);
      format = f;
      loop_address = u32_at s (at + 4);
      end_address = u32_at s (at + 8);
      current_address = u32_at s (at + 12);
      coefficients = i16s s (at + 16) 16;
      gain = u16_at s (at + 48);
      context = context_at s (at + 50);
    }

-- "a bad value when its field is read": looping and format, then the fields after them, of which none has a bad value
unfoldable pub read_channel : List ℕ → ℕ → Read Channel
read_channel s at =
    on (field s (at + 4) (u16_at s (at + 2))) refused (λ n.
    on (format_of n) refused (λ f.
    field s (at + channel_size) (channel_at s at f)))

-- "A second channel not in use is zero"
unfoldable pub no_channel : Channel
no_channel = record { looping = false; format = Adpcm; loop_address = 0; end_address = 0; current_address = 0; coefficients = replicate 16 (pos 0); gain = 0; context = zero_context }

-- ---- File header

-- "8 bytes space, `HALPST`, zero"
abbrev pub magic : List ℕ
magic = 32 ∷ 72 ∷ 65 ∷ 76 ∷ 80 ∷ 83 ∷ 84 ∷ 0 ∷ []

-- The same, read; "2 first 8 bytes wrong"
unfoldable pub read_magic : List ℕ → Read (List ℕ)
read_magic s =
    on (field s 8 (take 8 s)) refused (λ bytes.
    pick (same bytes magic) (value magic) (refused 2))

-- "File header, 128 bytes: 8 bytes space, `HALPST`, zero; u32 rate; u32 channel count; two channels of 56 bytes." (Read in "Opening and reading".)
unfoldable pub file_header_bytes : (rate count : ℕ) → Channel → Channel → List ℕ
file_header_bytes rate count l r = magic ++ (be32 rate ++ (be32 count ++ (channel_bytes l ++ channel_bytes r)))

-- "File header, 128 bytes"
abbrev pub file_header_size : ℕ
file_header_size = 128

-- "the first block at 128", "From 128 it reads block headers"
abbrev pub first_block_offset : ℕ
first_block_offset = file_header_size

-- "next offset 4,294,967,295 ends with no loop"; "else 4,294,967,295"
abbrev pub end_block_offset : ℕ
end_block_offset = 4294967295

-- ---- Block header

-- "Block header, 32 bytes"
abbrev pub block_header_size : ℕ
block_header_size = 32

-- "Then come cues of 8 bytes"
abbrev pub cue_point_size : ℕ
cue_point_size = 8

-- What comes before a block's data: its header, and cues "filled up to a multiple of 4 cues".
abbrev pub data_after : (cues : ℕ) → ℕ
data_after n = block_header_size + padded_size (cue_point_size * n)

-- "Block header, 32 bytes: u32 size, u32 end address, u32 next offset, two contexts each with 2 zero bytes after it, u8 cue count, 3 zero bytes."
unfoldable pub header_bytes : BlockHeader → List ℕ
header_bytes h =
    be32 h.size ++ be32 h.end_address ++ be32 h.next_offset ++ context_bytes h.left ++ (0 ∷ 0 ∷ [])
    ++ context_bytes h.right ++ (0 ∷ 0 ∷ []) ++ (h.cues ∷ 0 ∷ 0 ∷ 0 ∷ [])

-- The same, read; what stands in the places of the zero bytes is not looked at.
unfoldable pub header_at : List ℕ → ℕ → BlockHeader
header_at s at =
    record { size = u32_at s at; end_address = u32_at s (at + 4); next_offset = u32_at s (at + 8); left = context_at s (at + 12); right = context_at s (at + 20); cues = get_or s (at + 28) 0 }

-- "block headers with their filled cues": header and cues, "filled up to a multiple of 4 cues", lie in the slot
unfoldable pub read_header : List ℕ → ℕ → Read BlockHeader
read_header s at = field s (at + data_after (get_or s (at + 28) 0)) (header_at s at)

-- "Then come cues of 8 bytes (i32 sample index, u32 id)"
unfoldable pub cue_bytes : CuePoint → List ℕ
cue_bytes c = be32 (of_z w32 c.sample_index) ++ be32 c.id

-- The same, read.
unfoldable pub cue_at : List ℕ → ℕ → CuePoint
cue_at s at = record { sample_index = to_z w32 (u32_at s at); id = u32_at s (at + 4) }

-- "written filler is (-1, 0)"
abbrev pub filler : CuePoint
filler = record { sample_index = negsuc 0; id = 0 }

-- "filled up to a multiple of 4 cues"
unfoldable pub fillers : ℕ → List CuePoint
fillers n = replicate (padded_size (cue_point_size * n) / cue_point_size - n) filler

-- "each channel's data, padded with zeros to a multiple of 32"
unfoldable pub padded : List ℕ → List ℕ
padded bs = bs ++ replicate (padded_size (length bs) - length bs) 0

-- "Size is the sum of padded data."
unfoldable pub size_of : List (List ℕ) → ℕ
size_of ds = sum (λ d. padded_size (length d)) ds

-- The header of a block with this next offset, length, contexts, number of cues and size.
abbrev pub header_with : (next data_length : ℕ) (left right : FrameContext) (cues size : ℕ) → BlockHeader
header_with next n l r k size =
    record { size = size; end_address = n - 1; next_offset = next; left = l; right = r; cues = k }

-- The same of a block with these cues and this data.
unfoldable pub block_header : (next data_length : ℕ) (left right : FrameContext) → List CuePoint → List (List ℕ) → BlockHeader
block_header next n l r ps ds = header_with next n l r (length ps) (size_of ds)

-- A block: header, "Then come cues of 8 bytes .., filled up to a multiple of 4 cues .. Then each channel's data"
unfoldable pub block_bytes : (next data_length : ℕ) (left right : FrameContext) → List CuePoint → List (List ℕ) → List ℕ
block_bytes next n l r ps ds =
    header_bytes (block_header next n l r ps ds) ++ (flat_map cue_bytes ps ++ (flat_map cue_bytes (fillers (length ps)) ++ flat_map padded ds))

-- ---- Lengths, bytes and samples

-- "A block's length is counted in addresses (half bytes in ADPCM) and equals end address + 1."
abbrev pub length_in : BlockHeader → ℕ
length_in h = h.end_address + 1

-- "Bytes for n addresses: ADPCM (n+1)/2 rounded down"
unfoldable pub adpcm_bytes : ℕ → ℕ
adpcm_bytes n = (n + 1) / 2

-- "Bytes for n addresses: ADPCM (n+1)/2 rounded down, PCM16 2n, PCM8 n."
abbrev pub address_to_byte_up : DspFormat → ℕ → ℕ
address_to_byte_up Adpcm n = adpcm_bytes n
address_to_byte_up Pcm16 n = 2 * n
address_to_byte_up Pcm8 n = n

-- "if n mod 16 < 2, first replace n by n − n mod 16 + 2"
abbrev past_frame_head : ℕ → ℕ
past_frame_head n = pick (ltb (n % 16) 2) (n - n % 16 + 2) n

-- "then take n − 2(n/16 + 1), the quotient rounded down"
unfoldable pub adpcm_samples : ℕ → ℕ
adpcm_samples n = past_frame_head n - 2 * (past_frame_head n / 16 + 1)

-- "Samples for n addresses: n in PCM; in ADPCM, .."
abbrev pub num_samples : DspFormat → ℕ → ℕ
num_samples Adpcm n = adpcm_samples n
num_samples Pcm16 n = n
num_samples Pcm8 n = n
