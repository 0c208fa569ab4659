-- What the exported calls give: a number, and what the lent numbers and bytes hold after it.
use Rattle.std.specs.Prelude.{ℕ, ◌+◌, Bool, List, length, ltb, eqb, ℤ}
use Rattle.layout.specs.Choice.{pick}
use Rattle.layout.specs.Puts.{put_at}
use Rattle.writer.specs.Loading.{Answer, accepted, refused, push_args}
use Rattle.writer.specs.Calls.{Outcome, cue_of, push_of}
use Rattle.c_record.specs.KeptSides.{side_in, kind_of}
use Rattle.c_record.specs.KeptWriter.{stream_in, writer_in}
use Rattle.c_loading.specs.KeptLoading.{call_of, on_kept}
use Rattle.reader.specs.OpeningAndReading.{Opened, BlockAnswer, Remaining}
use Rattle.reader.specs.declared.HpsReader.{HpsReader}
use Rattle.c_opened.specs.KeptReader.{opened_size, opened_bytes}

-- ---- The estimate

-- The refusal's number, 0 where the call is accepted.
abbrev pub number_of : Answer → ℕ
number_of (refused n) = n
number_of (accepted m) = 0

-- A lent number after the call: what an accepted call gives; a refused one leaves it.
abbrev pub length_after : (before : ℕ) → Answer → ℕ
length_after before (refused n) = before
length_after before (accepted m) = m

-- ---- Opening

-- 252 where the lent bytes are too few for a record, else the opening's refusal or 0.
abbrev pub open_number : (room : ℕ) → Opened → ℕ
open_number room (Opened.refused n) = pick (ltb room opened_size) 252 n
open_number room (Opened.opened r) = pick (ltb room opened_size) 252 0

-- The lent bytes after an opening of this slot: the record where there is one and room for it, else as they were.
abbrev pub kept_after : (kept slot : List ℕ) → Opened → List ℕ
kept_after kept s (Opened.refused n) = kept
kept_after kept s (Opened.opened r) = pick (ltb (length kept) opened_size) kept (put_at kept 0 (opened_bytes s r))

-- ---- Calls on a kept record

-- The number of a call: 254 where the bytes hold no record.
abbrev pub on_record : HpsReader → (number : ℕ) → ℕ
on_record r n = pick (eqb r.count 0) 254 n

-- A block read's number, 255 for the end.
abbrev pub block_number : BlockAnswer → ℕ
block_number (BlockAnswer.refused n) = n
block_number (BlockAnswer.refused_at n j) = n
block_number BlockAnswer.ended = 255
block_number (BlockAnswer.gave rate f cs gain len c start bytes j) = 0

-- The numbers lent to a block read.
pub record BlockLent : Type 0 where
  pub position : ℕ
  pub start : ℕ
  pub end : ℕ
  pub addresses : ℕ
  pub scale : ℕ
  pub last : ℤ
  pub oldest : ℤ

-- The same after it: with 1 the position has moved, with a block all are given, else all are left. (Where there is no record the answer is 6.)
abbrev pub block_lent : BlockLent → BlockAnswer → BlockLent
block_lent b (BlockAnswer.refused n) = b
block_lent b (BlockAnswer.refused_at n j) =
    record { position = j; start = b.start; end = b.end; addresses = b.addresses; scale = b.scale; last = b.last; oldest = b.oldest }
block_lent b BlockAnswer.ended = b
block_lent b (BlockAnswer.gave rate f cs gain len c start bytes j) =
    record { position = j; start = start; end = start + length bytes; addresses = len; scale = c.predictor_and_scale; last = c.last; oldest = c.oldest }

-- The number of addresses remaining.
abbrev pub remaining_number : Remaining → ℕ
remaining_number (Remaining.refused n) = n
remaining_number (Remaining.addresses n) = 0

-- The number lent for the sum, after the call.
abbrev pub addresses_after : HpsReader → (before : ℕ) → Remaining → ℕ
addresses_after r before (Remaining.refused n) = before
addresses_after r before (Remaining.addresses n) = pick (eqb r.count 0) before n

-- ---- Cue

-- A cue of these arguments on the record that the bytes hold.
abbrev pub cue_on : (kept : List ℕ) (start kind range name : ℕ) → Outcome
cue_on kept start kind range name = cue_of (writer_in kept) (record { start = start; kind = kind_of kind range; name = name })

-- Its number: 253 where there is no such kind, then 254 where the bytes hold no record.
abbrev pub cue_number : (kept : List ℕ) (kind : ℕ) → Outcome → ℕ
cue_number kept kind o = pick (ltb 2 kind) 253 (on_kept kept o).number

-- ---- Push

-- A push of these arguments on the record that the bytes hold.
abbrev pub push_on : (kept : List ℕ) (channels : ℕ) (left left_data right right_data : List ℕ) (last : Bool) (lent : List ℕ) → Outcome
push_on kept ch l ld r rd last lent = push_of (writer_in kept) (push_args ch (side_in l 0) (side_in r 0) ld rd last) lent

-- Its number: 254 where the bytes hold no record, then 251 where a side is too short, then push's own.
abbrev pub push_number : (kept : List ℕ) (short : Bool) → Outcome → ℕ
push_number kept short o = pick (eqb (stream_in kept).setup.slot 0) 254 (pick short 251 (call_of o).number)
