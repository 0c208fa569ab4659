-- Hearing the block (document 02, Card 1): what decoding gives once a loading is finished, from what was pushed.
use Rattle.std.specs.Prelude.{ℕ, ◌+◌, ◌<◌, ◌≤◌, ◌≡◌, length, ltb}
use mathlib.Core.List.{List, ◌∷◌, ◌++◌, flat_map}
use Rattle.layout.specs.Choice.{pick}
use Rattle.layout.specs.Lists.{All}
use Rattle.layout.specs.Records.{adpcm_samples}
use Rattle.reader.specs.declared.HpsReader.{HpsReader}
use Rattle.adpcm_block.specs.Block.{Decoded, block_decoded}
use Rattle.reader_decode.specs.Decoding.{DecodeAnswer, decoding, new_decoder, heard}
use Rattle.writer.specs.Loading.{length_of}
use Rattle.power_cut.specs.LoadingBook.{Block, first_side, side_of}
use Rattle.power_cut.specs.Consequences.{WholeList, book_of, Finished, finished_record}

-- The decoding call: which definition stands for it. The call's contract cites the same one.
abbrev pub decodes : List ℕ → HpsReader → (channel position places : ℕ) → DecodeAnswer
decodes s r ch i places = decoding s r ch i places

-- How many samples a pushed block has in each channel.
abbrev pub samples_in : Block → ℕ
samples_in k = adpcm_samples (length_of k.push)

-- A pushed block's data in a channel, decoded: after the block's own context, by the first block's coefficients.
abbrev pub pushed_decoded : List Block → (channel : ℕ) → Block → Decoded
pushed_decoded bs ch k =
    block_decoded (first_side bs ch).coefficients (side_of k.push ch).block.context (length_of k.push) (side_of k.push ch).bytes

-- Each block is decoded in each channel as it was pushed, and the position moves on; 14 where fewer places are lent than it has samples.
unfoldable pub EachBlockDecoded : Type 0
EachBlockDecoded =
    (l : WholeList) (slot : List ℕ) → Finished l slot
    → (let bs = (book_of l).blocks in
    (before after : List Block) (k : Block) → bs ≡ before ++ (k ∷ after) → (channel : ℕ) → channel < (book_of l).channels → (places : ℕ)
    → decodes slot (finished_record l) channel (length before) places
    ≡ pick (ltb places (samples_in k)) (DecodeAnswer.refused 14) (DecodeAnswer.gave (pushed_decoded bs channel k) (length before + 1)))

-- Past the last block it is the end; a channel that there is not gets 6 at every position: whatever is lent.
unfoldable pub NoBlockDecoded : Type 0
NoBlockDecoded =
    (l : WholeList) (slot : List ℕ) → Finished l slot → (channel position places : ℕ)
    → ((book_of l).channels ≤ channel → decodes slot (finished_record l) channel position places ≡ DecodeAnswer.refused 6)
    × (channel < (book_of l).channels → length (book_of l).blocks ≤ position → decodes slot (finished_record l) channel position places ≡ DecodeAnswer.ended)

-- From a new decoder, with places for each block, a call for each block or more give the whole channel: the samples of its blocks in order, and no others.
unfoldable pub WholeChannelDecoded : Type 0
WholeChannelDecoded =
    (l : WholeList) (slot : List ℕ) → Finished l slot
    → (let bs = (book_of l).blocks in
    (channel : ℕ) → channel < (book_of l).channels → (places : ℕ) → All (λ k. samples_in k ≤ places) bs → (calls : ℕ) → length bs ≤ calls
    → heard calls slot (finished_record l) channel new_decoder places ≡ flat_map (λ k. (pushed_decoded bs channel k).samples) bs)
