-- The writer's record in lent bytes: the record that bytes stand for.
use Rattle.std.specs.Prelude.{Option, Some, None}
use Rattle.std.specs.Prelude.{ℕ, ◌+◌, ◌*◌, Bool, true, false, not, List, length, ltb, leb, eqb, Result, Ok, Err}
use Rattle.layout.specs.Choice.{pick, ◌and◌}
use Rattle.layout.specs.Refusals.{block_limit, slot_limit, cue_limit, length_limit}
use Rattle.writer.specs.Loading.{by_mode, mode_of}
use Rattle.writer.specs.Calls.{blank}
use Rattle.writer.specs.declared.Looping.{Looping}
use Rattle.writer.specs.declared.HpsWriter.{HpsWriter}
use Rattle.writer_assign_cues.specs.Taking.{tallied}
use Rattle.writer.specs.Push.{count_taken, cues_taken}
use Rattle.writer_assign_cues.specs.declared.Taken.{Taken}
use Rattle.c_opened.specs.declared.failure.Failure.{Failure}
use Rattle.c_opened.specs.declared.failure.Failure.TheVariants.{NoRecord}
use Rattle.c_record.specs.Fields.{fields_of, writer_of}
use Rattle.c_record.specs.declared.Fields.{Fields}
use Rattle.layout_number_or_zero.specs.NumberOrZero.{word_at, long_at}
use Rattle.c_record.specs.KeptSides.{side_in, table_in, loader_size, cues_at, left_at, right_at}

-- The number for no loop block.
abbrev pub nowhere : ℕ
nowhere = 18446744073709551615

-- The loop block's offset by its number.
unfoldable pub loop_offset : ℕ → Option ℕ
loop_offset n = pick (eqb n nowhere) None (Some n)

-- The numbers of the record as they stand there.
unfoldable pub fields_in : List ℕ → Fields
fields_in kept =
    record {
      setup = record { slot = long_at kept 0; channels = long_at kept 8; mode = mode_of (word_at kept 72) };
      count = long_at kept 16;
      stream = record {
        next = long_at kept 24;
        id = word_at kept 76;
        base = long_at kept 32;
        offset = long_at kept 40;
        loopat = loop_offset (long_at kept 64);
        blocks = long_at kept 48;
        sum = long_at kept 56;
        left = side_in kept left_at;
        right = side_in kept right_at;
        last = not (eqb (word_at kept 80) 0);
      };
      finished = not (eqb (word_at kept 84) 0);
    }

-- Whether the places in slot and table are within their limits.
unfoldable pub places_good : (slot offset count next id : ℕ) → Bool
places_good slot offset count next id = leb slot slot_limit and (leb offset slot and (leb count cue_limit and (leb next count and leb id (next + 1))))

-- Whether the sums can be those of so many blocks.
unfoldable pub sums_good : (blocks base sum : ℕ) → Bool
sums_good blocks base sum = leb blocks block_limit and (leb base (length_limit * blocks) and (leb sum (length_limit * blocks) and leb (2 * blocks) sum))

-- Whether the marks can be those of so many blocks.
unfoldable pub marks_good : (blocks : ℕ) (last finished : Bool) → Bool
marks_good blocks last finished = pick last (ltb 0 blocks) (not finished)

-- Whether the loop block's offset is not beyond this one.
abbrev pub loops_within : Option ℕ → (offset : ℕ) → Bool
loops_within None offset = true
loops_within (Some n) offset = leb n offset

-- Whether the numbers can be those of a record that a loading call gives.
unfoldable pub sensible : Fields → Bool
sensible s =
    places_good s.setup.slot s.stream.offset s.count s.stream.next s.stream.id
    and (sums_good s.stream.blocks s.stream.base s.stream.sum
    and (marks_good s.stream.blocks s.stream.last s.finished
    and loops_within s.stream.loopat s.stream.offset))

-- The record without its table; that of a refused begin, of a slot of no bytes, where the bytes hold none.
unfoldable pub stream_in : List ℕ → Fields
stream_in kept = pick (leb loader_size (length kept) and sensible (fields_in kept)) (fields_in kept) (fields_of blank)

-- The whole record: its table stands after the rest.
abbrev pub writer_in : List ℕ → HpsWriter
writer_in kept = writer_of (table_in kept cues_at (stream_in kept).count) (stream_in kept)

-- This of the record, where the bytes hold one: a record of a slot that has bytes.
abbrev pub where_held : {A : Type 0} → Fields → A → Result A Failure
where_held s x = pick (eqb s.setup.slot 0) (Err NoRecord) (Ok x)

-- ---- Its table

-- What a block takes of the table.
abbrev pub taken_in : List ℕ → (from count end : ℕ) (last : Bool) → Taken
taken_in kept from n end last =
    tallied (from + count_taken (table_in kept cues_at n) from n end last) (cues_taken (table_in kept cues_at n) from n end last)

-- Whether the table has a Loop, as far as that counts: under Enabled, before there is a loop block.
unfoldable pub held_in : Looping → Option ℕ → (held : Bool) → Bool
held_in m (Some n) held = false
held_in m None held = by_mode m false held false
