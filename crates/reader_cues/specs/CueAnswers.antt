-- What the cue call returns.
use Rattle.std.specs.Prelude.{◌≡◌, ℕ, false, List, [], ◌∷◌, length, replicate, pos, Option, Some, None, Result, Ok, Err}
use Rattle.layout.specs.declared.DspFormat.{DspFormat}
use Rattle.reader.specs.declared.HpsReader.{HpsReader}
use Rattle.reader.specs.OpeningAndReading.{Readable, channel_in}
use Rattle.layout.specs.Records.{Read, zero_context}
use Rattle.layout.specs.declared.CuePoint.{CuePoint}
use Rattle.reader.specs.declared.CueIterator.{CueIterator}
use Rattle.reader.specs.CuesReadBack.{CueAnswer, point_of, CueStep, stepped}
use Rattle.layout.specs.Answers.{number_of}
use Rattle.layout.specs.declared.refusal.Refusal.{Refusal}
use Rattle.reader_cues.specs.declared.ReadCue.{ReadCue}
use Rattle.reader_cues.specs.declared.CueCall.{CueCall}
use Rattle.layout.specs.Refusals.{block_limit}

-- What an answer says: a cue, the end, or the refusal's number.
abbrev pub cue_says : Result (Option ReadCue) Refusal → CueAnswer
cue_says (Ok (Some (ReadCue.Loop start))) = CueAnswer.loop start
cue_says (Ok (Some (ReadCue.Point start name))) = CueAnswer.point start name
cue_says (Ok None) = CueAnswer.ended
cue_says (Err e) = CueAnswer.refused (number_of e)

-- What a call says: its answer and the cursor after it.
abbrev pub cue_called : CueCall → CueStep
cue_called q = stepped (cue_says q.answer) q.cursor

-- The same of an answer with the cursor beside it: a refused one leaves the cursor from which it came.
abbrev pub step_says : CueIterator → Result (Option ReadCue × CueIterator) Refusal → CueStep
step_says c (Ok p) = stepped (cue_says (Ok p.0)) p.1
step_says c (Err e) = stepped (CueAnswer.refused (number_of e)) c

-- A cue point that was read, at a base.
abbrev pub point_read : (base : ℕ) → Read CuePoint → CueAnswer
point_read b (Read.refused n) = CueAnswer.refused n
point_read b (Read.value p) = point_of b p

-- What a cue call looks at of an opening record: its offsets, its count of blocks, its loop start and channel 0's format. A record with these parts and zeros.
abbrev pub record_with : (offsets : List ℕ) (blocks : ℕ) → Option ℕ → DspFormat → HpsReader
record_with os n l f = record {
  rate = 0;
  count = 0;
  channels = record {
    looping = false;
    format = f;
    loop_address = 0;
    end_address = 0;
    current_address = 0;
    coefficients = replicate 16 (pos 0);
    gain = 0;
    context = zero_context;
  } ∷ [];
  blocks = n;
  offsets = os;
  loop_start = l;
}

-- A record with these parts.
pub record PartsOf (r : HpsReader) (os : List ℕ) (n : ℕ) (l : Option ℕ) (f : DspFormat) : Type 0 where
  pub readable : Readable r
  pub two : length r.channels ≡ 2
  pub table : length r.offsets ≡ block_limit
  pub offsets : r.offsets ≡ os
  pub blocks : r.blocks ≡ n
  pub start : r.loop_start ≡ l
  pub format : (channel_in r 0).format ≡ f
