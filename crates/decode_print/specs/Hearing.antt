-- Hearing a channel (document 02, Card 1): the samples of a slot's channel and how they end, and what is printed of them.
use Rattle.std.specs.Prelude.{ℕ, ◌+◌, ◌-◌, ◌*◌, ◌/◌, ◌≤◌, ◌<◌, ◌≡◌, Bool, true, false, List, [], length, drop, eqb, ℤ, Option, Some, None, Result, Ok, Err}
use Rattle.layout.specs.Records.{Read}
use Rattle.layout.specs.Answers.{number_of}
use Rattle.layout.specs.declared.refusal.Refusal.{Refusal}
use Rattle.layout.specs.Refusals.{block_limit, slot_limit, length_limit}
use Rattle.reader.specs.OpeningAndReading.{Opened, opening}
use Rattle.reader.specs.declared.HpsReader.{HpsReader}
use Rattle.reader_decode.specs.Decoding.{DecodeAnswer, decoding, new_decoder, decode_answer, decoder_on, heard}
use Rattle.reader_decode.specs.declared.Decoder.{Decoder}
use Rattle.decode_print.specs.declared.Heard.{Heard}
use Rattle.decode_print.specs.declared.NotTaken.{NotTaken}
use Rattle.decode_print.specs.declared.Hearing.{Hearing}

-- The samples of so many addresses that fill whole frames: 14 of every 16.
abbrev pub whole_frames : (addresses : ℕ) → ℕ
whole_frames n = n / 16 * 14

-- No block in a slot has more samples than these (`RoomForEach`): two addresses to every byte of the longest slot.
abbrev pub most_samples : ℕ
most_samples = whole_frames (2 * slot_limit)

-- Those of the longest block that can be pushed.
abbrev pub pushed_samples : ℕ
pushed_samples = whole_frames length_limit

-- The samples from a decoder on: those of a call for each block that is left.
unfoldable pub heard_from : List ℕ → HpsReader → (channel : ℕ) → Decoder → List ℤ
heard_from s r ch d = heard (r.blocks - d.position) s r ch d most_samples

-- The answer of the call after them.
unfoldable pub end_from : List ℕ → HpsReader → (channel : ℕ) → Decoder → Read (Option ℕ)
end_from s r ch d = decode_answer (decoding s r ch (decoder_on (r.blocks - d.position) s r ch d most_samples).position most_samples)

-- "The course room wants to listen to one channel.": its samples, block after block, up to the end or to a refusal; none where the slot does not open
abbrev pub samples_on : List ℕ → (channel : ℕ) → Opened → List ℤ
samples_on s ch (Opened.refused n) = []
samples_on s ch (Opened.opened r) = heard_from s r ch new_decoder

unfoldable pub channel_samples : List ℕ → (channel : ℕ) → List ℤ
channel_samples s ch = samples_on s ch (opening s)

-- How they end: by the end or a refusal; the opening's where the slot does not open
abbrev pub end_on : List ℕ → (channel : ℕ) → Opened → Read (Option ℕ)
end_on s ch (Opened.refused n) = Read.refused n
end_on s ch (Opened.opened r) = end_from s r ch new_decoder

unfoldable pub channel_end : List ℕ → (channel : ℕ) → Read (Option ℕ)
channel_end s ch = end_on s ch (opening s)

-- `most_samples` are places enough for every block of a slot that opens.
unfoldable pub RoomForEach : Type 0
RoomForEach = (s : List ℕ) (r : HpsReader) → opening s ≡ Opened.opened r → (channel position : ℕ) → decoding s r channel position most_samples ≡ DecodeAnswer.refused 14 → ⊥

-- ---- What is printed

-- What an end says, as a call's answer: the end, or a refusal's number.
abbrev pub ended_says : Result (Unit {0}) Refusal → Read (Option ℕ)
ended_says (Ok u) = Read.value None
ended_says (Err r) = Read.refused (number_of r)

-- Where the system took all, those were all samples, and so they end; else no more than these were handed to it.
abbrev pub HeardOf : (samples : List ℤ) (end : Read (Option ℕ)) → Result Heard NotTaken → Type 0
HeardOf xs end (Ok h) = (h.length ≡ length xs) × (ended_says h.end ≡ end)
HeardOf xs end (Err e) = e.length ≤ length xs

-- On the way: so many samples of the channel stand before this decoder, and what comes from it on are the others and how they end.
pub record Before (s : List ℕ) (r : HpsReader) (channel : ℕ) (d : Decoder) (count : ℕ) : Type 0 where
  pub inside : count ≤ length (channel_samples s channel)
  pub left : drop count (channel_samples s channel) ≡ heard_from s r channel d
  pub ends : channel_end s channel ≡ end_from s r channel d
  pub few : length (channel_samples s channel) ≤ block_limit * most_samples

-- Whether it is the answer of a call that gave samples.
abbrev pub is_samples : Read (Option ℕ) → Bool
is_samples (Read.refused n) = false
is_samples (Read.value None) = false
is_samples (Read.value (Some n)) = true

-- Whether more places would do.
abbrev pub is_short : Read (Option ℕ) → Bool
is_short (Read.refused n) = eqb n 14
is_short (Read.value a) = false

-- Printed up to a call that gave no samples, with so many places lent.
pub record HeardHere (s : List ℕ) (r : HpsReader) (channel places : ℕ) (h : Hearing) : Type 0 where
  pub before : Before s r channel h.decoder h.heard.length
  pub end : ended_says h.heard.end ≡ decode_answer (decoding s r channel h.decoder.position places)

-- Samples that the system did not take, after so many that it was handed: they are among those that a call gave, with so many places lent.
pub record Untaken (s : List ℕ) (r : HpsReader) (channel places count : ℕ) : Type 0 where
  pub decoder : Decoder
  pub from : ℕ
  pub before : Before s r channel decoder from
  pub given : ℕ
  pub gave : decode_answer (decoding s r channel decoder.position places) ≡ Read.value (Some given)
  pub among : (from ≤ count) × (count < from + given)
  pub inside : from + given ≤ length (channel_samples s channel)

-- Printed up to a call that gave no samples, or up to samples that the system did not take.
abbrev pub HeardTo : List ℕ → HpsReader → (channel places : ℕ) → Result Hearing NotTaken → Type 0
HeardTo s r ch places (Ok h) = HeardHere s r ch places h
HeardTo s r ch places (Err e) = Untaken s r ch places e.length
