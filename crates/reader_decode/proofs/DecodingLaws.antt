-- The decoding call by its cases: no such channel, another format, and what block read gives.
use Rattle.std.proofs.Common.{Option, Some, None, not, Bool, true}
use Prim.Native.Nat.{ℕ, ◌+◌, ◌≤◌, ◌<◌}
use mathlib.Core.Path.{◌≡◌, refl, sym, ap, ◌∙◌}
use mathlib.Core.Bool.{false}
use mathlib.Core.List.{List}
use lib.ListN.{length}
use lib.IntN.{ℤ}
use lib.Dec.{leb}
use Rattle.layout.proofs.Cases.{by_cases}
use Rattle.layout.specs.declared.DspFormat.{DspFormat}
use borrow.Author.Tests.{lt-leb, le-leb, not-false}
use Rattle.layout.specs.Records.{Read, adpcm_samples}
use Rattle.layout.specs.declared.FrameContext.{FrameContext}
use Rattle.reader.specs.OpeningAndReading.{BlockAnswer, channel_in, block_read}
use Rattle.reader.specs.declared.HpsReader.{HpsReader}
use Rattle.reader_block.specs.BlockAnswers.{block_answer, block_position, block_data}
use Rattle.reader_block.specs.declared.Block.{Block}
use Rattle.adpcm_block.specs.Block.{Decoded, decoded_into, context_read, lent_after}
use Rattle.adpcm_block.proofs.IntoLaws.{ContextGiven, refusal_given}
use Rattle.reader_decode.specs.Decoding.{decoder_at, DecodeAnswer, not_adpcm, block_due, on_decoded, on_block, decoding, decoded_in, samples_after}

module _ (s : List ℕ) (r : HpsReader) (ch i places : ℕ) where
  pub no_channel_lem : r.count ≤ ch → decoding s r ch i places ≡ DecodeAnswer.refused 6
  unfolding decoding
  no_channel_lem h = rw (le-leb r.count ch h)

  pub by_block : ch < r.count → not_adpcm (channel_in r ch).format ≡ false → decoding s r ch i places ≡ on_block (block_read s r ch i) places
  unfolding decoding
  by_block h e = rw (lt-leb r.count ch h, e)

  -- by what is due early
  module _ (f : DspFormat) (ef : (channel_in r ch).format ≡ f) where
    pub early_refused : {n : ℕ} → Read.refused n ≡ block_due r.count ch f r.blocks i → decoding s r ch i places ≡ DecodeAnswer.refused n
    unfolding decoding
    early_refused {n} e =
        by_cases (leb r.count ch) (λ t. let k : Read.refused n ≡ Read.refused 6 = rw t at e in let m : 6 ≡ n = cc in rw t (ap DecodeAnswer.refused m))
        (λ t. by_cases (not_adpcm f) (λ u. let k : Read.refused n ≡ Read.refused 30 = rw (t, u) at e in let m : 30 ≡ n = cc in rw t (rw ef (rw u (ap DecodeAnswer.refused m))))
        (λ u. let k : Read.refused n ≡ Read.value (not (leb r.blocks i)) = rw (t, u) at e in absurd cc))

    -- past 6 and 30
    due : {b : Bool} → Read.value b ≡ block_due r.count ch f r.blocks i → (decoding s r ch i places ≡ on_block (block_read s r ch i) places) × (leb r.count ch ≡ false) × (b ≡ not (leb r.blocks i))
    unfolding decoding
    due {b} e =
        by_cases (leb r.count ch) (λ t. let k : Read.value b ≡ Read.refused 6 = rw t at e in absurd cc)
        (λ t. by_cases (not_adpcm f) (λ u. let k : Read.value b ≡ Read.refused 30 = rw (t, u) at e in absurd cc)
        (λ u. let k : Read.value b ≡ Read.value (not (leb r.blocks i)) = rw (t, u) at e in (rw t (rw ef (rw u)), t, cc)))

    pub early-ended : {b : Bool} → Read.value b ≡ block_due r.count ch f r.blocks i → b ≡ false → decoding s r ch i places ≡ DecodeAnswer.ended
    unfolding block_read on_block
    early-ended e z =
        let d = due e in
        let k : leb r.blocks i ≡ true = not-false _ (sym d.2 ∙ z) in
        d.0 ∙ rw d.1 (rw k)

    pub early-block : {b : Bool} → Read.value b ≡ block_due r.count ch f r.blocks i → decoding s r ch i places ≡ on_block (block_read s r ch i) places
    early-block e = (due e).0

-- what block read's answer says of the decoding
pub block_refused : (a : BlockAnswer) (places : ℕ) {n : ℕ} → Read.refused n ≡ block_answer a → on_block a places ≡ DecodeAnswer.refused n
unfolding on_block
block_refused (BlockAnswer.refused m) places {n} e = let k : m ≡ n = cc in ap DecodeAnswer.refused k
block_refused (BlockAnswer.refused_at m j) places {n} e = let k : m ≡ n = cc in ap DecodeAnswer.refused k
block_refused BlockAnswer.ended places e = absurd cc
block_refused (BlockAnswer.gave rate f cs gain n c start bytes j) places e = absurd cc

pub block-ended : (a : BlockAnswer) (places : ℕ) → Read.value None ≡ block_answer a → on_block a places ≡ DecodeAnswer.ended
unfolding on_block
block-ended (BlockAnswer.refused m) places e = absurd cc
block-ended (BlockAnswer.refused_at m j) places e = absurd cc
block-ended BlockAnswer.ended places e = refl
block-ended (BlockAnswer.gave rate f cs gain n c start bytes j) places e = absurd cc

pub block-given : (a : BlockAnswer) (i places : ℕ) {b : Block} → Read.value (Some b) ≡ block_answer a
    → on_block a places ≡ on_decoded (decoded_into places b.coefficients b.context b.length (block_data a)) (block_position i a)
unfolding on_block
block-given (BlockAnswer.refused m) i places e = absurd cc
block-given (BlockAnswer.refused_at m j) i places e = absurd cc
block-given BlockAnswer.ended i places e = absurd cc
block-given (BlockAnswer.gave rate f cs gain n c start bytes j) i places {b} e =
    let k : b ≡ record { rate = rate; format = f; coefficients = cs; gain = gain; length = n; context = c; start = start; end = start + length bytes } = cc in rw k

-- a block that was given, decoded
pub there : (s : List ℕ) (r : HpsReader) (ch i places : ℕ) {a : Read (Option Block)} {b : Block} {bytes : List ℕ} {j : ℕ} → decoding s r ch i places ≡ on_block (block_read s r ch i) places
    → a ≡ block_answer (block_read s r ch i) → a ≡ Read.value (Some b) → bytes ≡ block_data (block_read s r ch i) → j ≡ block_position i (block_read s r ch i)
    → decoding s r ch i places ≡ on_decoded (decoded_into places b.coefficients b.context b.length bytes) j
there s r ch i places e g h d p = e ∙ rw (d, p) (block-given (block_read s r ch i) i places (sym h ∙ g))

-- what is returned, and the lent places, by the answer
module _ {a : DecodeAnswer} (lent : List ℤ) where
  pub out : {n : ℕ} → a ≡ DecodeAnswer.refused n → (Read.refused n ≡ decoded_in a) × (lent ≡ samples_after lent a)
  out e = rw e (refl, refl)

  pub at_end : a ≡ DecodeAnswer.ended → (Read.value None ≡ decoded_in a) × (lent ≡ samples_after lent a)
  at_end e = rw e (refl, refl)

  pub undecoded : (x : Read Decoded) (j : ℕ) {k : ℕ} {now : List ℤ} → a ≡ on_decoded x j → Read.refused k ≡ context_read x → now ≡ lent_after x lent
      → (Read.refused k ≡ decoded_in a) × (now ≡ samples_after lent a)
  undecoded x j f g v = let h = refusal_given x g in rw (f, h) (refl, rw h at v)

  pub decoded : (x : Read Decoded) (j : ℕ) {n count : ℕ} {after : FrameContext} {now : List ℤ} → a ≡ on_decoded x j → ContextGiven x n after → count ≡ adpcm_samples n
      → now ≡ lent_after x lent → (Read.value (Some (count, decoder_at j after)) ≡ decoded_in a) × (now ≡ samples_after lent a)
  decoded x j f g e v = rw (f, g.is) (rw (e, g.count, g.context) refl, rw g.is at v)
