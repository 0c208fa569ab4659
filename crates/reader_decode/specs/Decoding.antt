-- Hearing the block (document 02, Card 1): the decoding call on a slot.
use Rattle.std.specs.Prelude.{ℕ, zero, suc, Bool, true, false, List, [], ◌++◌, length, leb, not, ℤ, Option, Some, None}
use Rattle.layout.specs.Choice.{pick}
use Rattle.layout.specs.Records.{Read, zero_context}
use Rattle.layout.specs.declared.FrameContext.{FrameContext}
use Rattle.layout.specs.declared.DspFormat.{DspFormat}
use Rattle.layout.specs.declared.DspFormat.TheVariants.{Adpcm, Pcm16, Pcm8}
use Rattle.reader.specs.OpeningAndReading.{BlockAnswer, channel_in, block_read}
use Rattle.reader.specs.declared.HpsReader.{HpsReader}
use Rattle.adpcm_block.specs.Block.{Decoded, decoded_into, filled_with}
use Rattle.reader_decode.specs.declared.Decoder.{Decoder}

-- A decoder with this position and context.
abbrev pub decoder_at : (position : ℕ) → FrameContext → Decoder
decoder_at i c = record { position = i; context = c }

-- `Decoder::new`: before the first block, with a context of zeros
abbrev pub new_decoder : Decoder
new_decoder = decoder_at 0 zero_context

-- What a decoding call gives: a refusal's number, the end, or what was decoded and the position after it.
pub data DecodeAnswer : Type 0 where
  refused : (number : ℕ) → DecodeAnswer
  ended : DecodeAnswer
  gave : (decoded : Decoded) (position : ℕ) → DecodeAnswer

-- "when the channel isn't ADPCM"
abbrev pub not_adpcm : DspFormat → Bool
not_adpcm Adpcm = false
not_adpcm Pcm16 = true
not_adpcm Pcm8 = true

-- A block's data decoded into so many lent places, or its refusal.
abbrev pub on_decoded : Read Decoded → (position : ℕ) → DecodeAnswer
on_decoded (Read.refused n) i = DecodeAnswer.refused n
on_decoded (Read.value d) i = DecodeAnswer.gave d i

-- The block that block read gives, decoded "as `decode.rs` in docs/src does it": after its own context, by the record's coefficients.
unfoldable pub on_block : BlockAnswer → (places : ℕ) → DecodeAnswer
on_block (BlockAnswer.refused n) places = DecodeAnswer.refused n
on_block (BlockAnswer.refused_at n i) places = DecodeAnswer.refused n
on_block BlockAnswer.ended places = DecodeAnswer.ended
on_block (BlockAnswer.gave rate f cs gain n c start bytes i) places = on_decoded (decoded_into places cs c n bytes) i

-- "It refuses with 30 when the channel isn't ADPCM, checked right after 6 and before the end, and with 14 as before, checked after 1."
unfoldable pub decoding : List ℕ → HpsReader → (channel position places : ℕ) → DecodeAnswer
decoding s r ch i places =
    pick (leb r.count ch) (DecodeAnswer.refused 6)
    (pick (not_adpcm (channel_in r ch).format) (DecodeAnswer.refused 30)
    (on_block (block_read s r ch i) places))

-- ---- What the call returns

-- What is due before a block is read: a refusal, or whether there is a block.
abbrev pub block_due : (count channel : ℕ) → DspFormat → (blocks position : ℕ) → Read Bool
block_due count ch f blocks i =
    pick (leb count ch) (Read.refused 6)
    (pick (not_adpcm f) (Read.refused 30)
    (Read.value (not (leb blocks i))))

-- "tells how many places it filled"; none at the end
abbrev pub decode_answer : DecodeAnswer → Read (Option ℕ)
decode_answer (DecodeAnswer.refused n) = Read.refused n
decode_answer DecodeAnswer.ended = Read.value None
decode_answer (DecodeAnswer.gave d i) = Read.value (Some (length d.samples))

-- The same with the decoder after the block.
abbrev pub decoded_in : DecodeAnswer → Read (Option (ℕ × Decoder))
decoded_in (DecodeAnswer.refused n) = Read.refused n
decoded_in DecodeAnswer.ended = Read.value None
decoded_in (DecodeAnswer.gave d i) = Read.value (Some (length d.samples, decoder_at i d.context))

-- "A refused decoding moves neither the position nor what passes on."; nor does the end
abbrev pub decoder_after : Decoder → DecodeAnswer → Decoder
decoder_after d (DecodeAnswer.refused n) = d
decoder_after d DecodeAnswer.ended = d
decoder_after d (DecodeAnswer.gave x i) = decoder_at i x.context

-- "starts at its first place, keeps the rest"; where nothing is decoded, all of it
abbrev pub samples_after : (lent : List ℤ) → DecodeAnswer → List ℤ
samples_after lent (DecodeAnswer.refused n) = lent
samples_after lent DecodeAnswer.ended = lent
samples_after lent (DecodeAnswer.gave d i) = filled_with d.samples lent

-- ---- Call after call

-- The samples that a call gives: none where it is refused or at the end.
abbrev pub heard_in : DecodeAnswer → List ℤ
heard_in (DecodeAnswer.refused n) = []
heard_in DecodeAnswer.ended = []
heard_in (DecodeAnswer.gave d i) = d.samples

-- The decoder after so many calls, each from the decoder that the one before it leaves.
unfoldable pub decoder_on : (calls : ℕ) → List ℕ → HpsReader → (channel : ℕ) → Decoder → (places : ℕ) → Decoder
decoder_on zero s r ch d places = d
decoder_on (suc n) s r ch d places = decoder_on n s r ch (decoder_after d (decoding s r ch d.position places)) places

-- The samples that they give, one after the other.
unfoldable pub heard : (calls : ℕ) → List ℕ → HpsReader → (channel : ℕ) → Decoder → (places : ℕ) → List ℤ
heard zero s r ch d places = []
heard (suc n) s r ch d places =
    let a = decoding s r ch d.position places in heard_in a ++ heard n s r ch (decoder_after d a) places
