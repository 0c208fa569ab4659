-- Hearing the block (document 02, Card 1): a frame and a block of ADPCM data decoded to samples, as decode.rs does it.
use Rattle.std.specs.Prelude.{ℕ, zero, suc, ◌+◌, ◌-◌, ◌*◌, ◌/◌, ◌%◌, ◌≤◌, ◌≡◌, List, [], ◌∷◌, ◌++◌, length, get_or, take, drop, ltb, ℤ, pos}
use Rattle.layout.specs.Choice.{pick}
use Rattle.layout.specs.Records.{Read, field, on, adpcm_bytes, adpcm_samples}
use Rattle.layout.specs.declared.FrameContext.{FrameContext}
use Rattle.adpcm_sample.specs.Sample.{sample}

-- What decoding gives: the samples, and "what passes from block to block", the context after the last of them.
pub record Decoded : Type 0 where
  pub samples : List ℤ
  pub context : FrameContext

-- "half bytes, the high half first"
unfoldable pub halves : List ℕ → List ℕ
halves [] = []
halves (b ∷ bs) = b / 16 ∷ b % 16 ∷ halves bs

-- A context of these numbers.
abbrev pub context_with : (ps : ℕ) (last oldest : ℤ) → FrameContext
context_with ps last oldest = record { predictor_and_scale = ps; last = last; oldest = oldest }

-- The context after one more sample.
abbrev pub with_sample : FrameContext → ℤ → FrameContext
with_sample c x = context_with c.predictor_and_scale x c.last

-- One sample before the others.
abbrev pub precede : ℤ → Decoded → Decoded
precede x d = record { samples = x ∷ d.samples; context = d.context }

-- Half bytes decoded by a pair of coefficients, each after the context that the one before it leaves.
unfoldable pub halves_decoded : (c0 c1 : ℤ) → FrameContext → List ℕ → Decoded
halves_decoded c0 c1 c [] = record { samples = []; context = c }
halves_decoded c0 c1 c (h ∷ hs) =
    let x = sample c0 c1 c.last c.oldest h c.predictor_and_scale in precede x (halves_decoded c0 c1 (with_sample c x) hs)

-- "whose high half modulo 8 chooses the pair of coefficients": where the pair stands
abbrev pub pair_at : (ps : ℕ) → ℕ
pair_at ps = ps / 16 % 8 * 2

-- Half bytes decoded by the pair that the context's predictor and scale choose.
unfoldable pub pair_decoded : (coefficients : List ℤ) → FrameContext → List ℕ → Decoded
pair_decoded cs c hs = halves_decoded (get_or cs (pair_at c.predictor_and_scale) (pos 0)) (get_or cs (pair_at c.predictor_and_scale + 1) (pos 0)) c hs

-- "A frame is a header byte .. and 14 half bytes": of the n addresses from the data's start on, the first two are the header's
abbrev pub frame_halves : (n : ℕ) → List ℕ → List ℕ
frame_halves n bytes = take (n - 2) (take 14 (halves (drop 1 bytes)))

-- A frame, after a context that has its predictor and scale.
abbrev pub frame_decoded : (coefficients : List ℤ) → FrameContext → (n : ℕ) → List ℕ → Decoded
frame_decoded cs c n bytes = pair_decoded cs c (frame_halves n bytes)

-- "a header byte": the next frame's, 8 bytes on, as predictor and scale
abbrev pub with_header : FrameContext → List ℕ → FrameContext
with_header c bytes = context_with (get_or bytes 8 0) c.last c.oldest

-- What is decoded after the context that a part leaves, behind that part.
abbrev pub follow : Decoded → (FrameContext → Decoded) → Decoded
follow d f = record { samples = d.samples ++ (f d.context).samples; context = (f d.context).context }

-- A frame and so many more, each begun by its header byte.
unfoldable pub frames_decoded : (more : ℕ) → (coefficients : List ℤ) → FrameContext → (n : ℕ) → List ℕ → Decoded
frames_decoded zero cs c n bytes = frame_decoded cs c n bytes
frames_decoded (suc more) cs c n bytes =
    follow (frame_decoded cs c n bytes) (λ d. frames_decoded more cs (with_header d bytes) (n - 16) (drop 8 bytes))

-- A block of n addresses: the first frame goes by the block's context and its header byte is passed over; each 16 addresses begin another.
unfoldable pub block_decoded : (coefficients : List ℤ) → FrameContext → (n : ℕ) → List ℕ → Decoded
block_decoded cs c n bytes = frames_decoded ((n - 1) / 16) cs c n bytes

-- Into so many lent places: 1 where the data is shorter than its length says, "14 as before, checked after 1" where there are fewer places than samples.
unfoldable pub decoded_into : (places : ℕ) → (coefficients : List ℤ) → FrameContext → (n : ℕ) → List ℕ → Read Decoded
decoded_into places cs c n bytes =
    on (field bytes (adpcm_bytes n) (block_decoded cs c n bytes)) Read.refused (λ d.
    pick (ltb places (adpcm_samples n)) (Read.refused 14) (Read.value d))

-- Of that the context.
abbrev pub context_read : Read Decoded → Read FrameContext
context_read d = on d Read.refused (λ x. Read.value x.context)

-- "A call that fills a lent buffer .. starts at its first place, keeps the rest"
abbrev pub filled_with : List ℤ → (lent : List ℤ) → List ℤ
filled_with xs lent = xs ++ drop (length xs) lent

-- The lent places afterwards; where it is refused, as they were.
abbrev pub lent_after : Read Decoded → (lent : List ℤ) → List ℤ
lent_after d lent = on d (λ n. lent) (λ x. filled_with x.samples lent)

-- "The number of samples equals document 01's count for the block's length.": for every length whose data is there
unfoldable pub SamplesCounted : Type 0
SamplesCounted =
    (coefficients : List ℤ) (c : FrameContext) (n : ℕ) (bytes : List ℕ) → adpcm_bytes n ≤ length bytes → length (block_decoded coefficients c n bytes).samples ≡ adpcm_samples n
