-- Cue calls one after the other on a kept record: the cursor in bytes, and what as many calls as there is room for give.
use Rattle.std.specs.Prelude.{ℕ, zero, suc, ◌+◌, ◌/◌, ◌^◌, ◌≤◌, ◌<◌, ◌≡◌, Bool, true, List, [], ◌++◌, length, replicate, ltb, eqb}
use Rattle.layout.specs.Choice.{pick, ◌and◌, ◌or◌}
use Rattle.layout.specs.Puts.{put_at}
use Rattle.layout.specs.Records.{be32}
use Rattle.reader.specs.declared.HpsReader.{HpsReader}
use Rattle.reader.specs.declared.CueIterator.{CueIterator}
use Rattle.reader.specs.CuesReadBack.{CueAnswer, cursor, looped, first_cursor, cue_step}
use Rattle.layout_number_or_zero.specs.NumberOrZero.{word_at, long_at}
use Rattle.c_opened.specs.KeptReader.{be64, put_long, reader_in}
use Rattle.c_opened.specs.Failures.{told}
use Rattle.c_cues.specs.CueBytes.{cue_kept}
use Rattle.c_cues.specs.declared.CuesFilled.{CuesFilled}

-- ---- The cursor in bytes

-- The cursor that bytes hold: block, place and base; the Loop is due if the record has one and the last number is 0. All zeros are the first cursor.
unfoldable pub cursor_in : HpsReader → List ℕ → CueIterator
cursor_in r bs = cursor (long_at bs 0) (long_at bs 8) (long_at bs 16) ((first_cursor r).due and eqb (word_at bs 24) 0)

-- The bytes of a cursor. Of the 32 lent the last 4 are left as they are.
unfoldable pub cursor_bytes : CueIterator → List ℕ
cursor_bytes c = be64 c.block ++ be64 c.place ++ be64 c.base ++ be32 (pick c.due 0 1)

-- A cursor put number by number, each where it fits.
unfoldable pub put_cursor : List ℕ → CueIterator → List ℕ
put_cursor bs c = put_at (put_long (put_long (put_long bs 0 c.block) 8 c.place) 16 c.base) 24 (be32 (pick c.due 0 1))

-- What a cursor on a record can hold: three numbers of 64 bits; the Loop is due only where the record has one.
pub record CursorFits (r : HpsReader) (c : CueIterator) : Type 0 where
  pub block : c.block < 2 ^ 64
  pub place : c.place < 2 ^ 64
  pub base : c.base < 2 ^ 64
  pub due : c.due ≡ true → looped r.loop_start ≡ true

-- 32 zeros are the first cursor, and the bytes that are put for a cursor stand for it.
pub record CursorBack : Type 0 where
  pub zeros : (r : HpsReader) → cursor_in r (replicate 32 0) ≡ first_cursor r
  pub back : (r : HpsReader) (bs : List ℕ) (c : CueIterator) → CursorFits r c → 28 ≤ length bs → cursor_in r (put_at bs 0 (cursor_bytes c)) ≡ c

-- ---- Cue calls one after the other

-- What they give: the number of the call that gave no cue, 0 where all gave one; how many cues, the cursor after them, and their bytes.
pub record CuesGiven : Type 0 where
  pub number : ℕ
  pub count : ℕ
  pub after : CueIterator
  pub bytes : List ℕ

-- No cue.
abbrev pub no_cue_given : (number : ℕ) → CueIterator → CuesGiven
no_cue_given n c = record { number = n; count = 0; after = c; bytes = [] }

-- So many cues with these bytes before others.
abbrev pub ahead : ℕ → List ℕ → CuesGiven → CuesGiven
ahead n bs g = record { number = g.number; count = n + g.count; after = g.after; bytes = bs ++ g.bytes }

-- A call's answer and the cursor after it, before what the calls after it give: a call that gives no cue is the last.
abbrev pub one_cue : CueAnswer → CueIterator → CuesGiven → CuesGiven
one_cue (CueAnswer.refused n) c rest = no_cue_given n c
one_cue CueAnswer.ended c rest = no_cue_given 255 c
one_cue (CueAnswer.loop start) c rest = ahead 1 (cue_kept start 1 0) rest
one_cue (CueAnswer.point start name) c rest = ahead 1 (cue_kept start 0 name) rest

-- As many cue calls as there is room for cues, each from the cursor after the former.
unfoldable pub cues_given : (slot : List ℕ) → HpsReader → (room : ℕ) → CueIterator → CuesGiven
cues_given s r zero c = no_cue_given 0 c
cues_given s r (suc n) c = one_cue (cue_step s r c).answer (cue_step s r c).after (cues_given s r n (cue_step s r c).after)

-- The same but the bytes.
pub record CuesCounted : Type 0 where
  pub number : ℕ
  pub cues : ℕ
  pub cursor : CueIterator

abbrev pub filled_of : (number cues : ℕ) → CueIterator → CuesCounted
filled_of n k c = record { number = n; cues = k; cursor = c }

abbrev pub given_of : CuesGiven → CuesCounted
given_of g = filled_of g.number g.count g.after

-- What the struct that a loop of cue calls returns says.
abbrev pub filled_says : CuesFilled → CuesCounted
filled_says q = filled_of (told q.end) q.cues q.cursor

-- ---- On lent bytes

-- What is lent for cues: the cursor's bytes, the bytes for cues, and a number for how many.
pub record CuesLent : Type 0 where
  pub cursor : List ℕ
  pub out : List ℕ
  pub cues : ℕ

-- The cue calls: from the cursor that the bytes hold, as many as 16 bytes each fit.
unfoldable pub cues_on : (slot kept : List ℕ) → CuesLent → CuesGiven
cues_on s kept b = cues_given s (reader_in kept) (length b.out / 16) (cursor_in (reader_in kept) b.cursor)

-- The number of calls of which the last gave this one, after so many cues: a refusal that comes after cues is left to the calls from the cursor after them.
unfoldable pub number_after : (cues number : ℕ) → ℕ
number_after k n = pick (eqb k 0) n (pick (eqb n 255) 255 0)

-- Their number: 252 where the cursor's bytes are fewer than 32, 254 where the kept bytes hold no record, 14 where there is room for no cue.
unfoldable pub cues_number : (slot kept : List ℕ) → CuesLent → ℕ
cues_number s kept b =
    pick (ltb (length b.cursor) 32) 252
    (pick (eqb (reader_in kept).count 0) 254
    (pick (ltb (length b.out) 16) 14
    (number_after (cues_on s kept b).count (cues_on s kept b).number)))

-- Whether calls with this number give cues: with 0, and with 255, where there may be none before the end.
abbrev pub gives_cues : (number : ℕ) → Bool
gives_cues n = eqb n 0 or eqb n 255

-- What is lent after them: the cursor after the cues, the cues one after the other from the start, the rest as it was, and how many. With a number that gives no cues,
-- 1 among them, all is as it was.
unfoldable pub cues_lent : (slot kept : List ℕ) → CuesLent → CuesLent
cues_lent s kept b =
    pick (gives_cues (cues_number s kept b))
    (record { cursor = put_at b.cursor 0 (cursor_bytes (cues_on s kept b).after); out = put_at b.out 0 (cues_on s kept b).bytes; cues = (cues_on s kept b).count })
    b
