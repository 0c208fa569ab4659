-- The bytes of the writer's record in lent bytes: its numbers.
use Rattle.std.specs.Prelude.{Option, Some, None}
use Rattle.std.specs.Prelude.{ℕ, Bool}
use mathlib.Core.List.{List, [], ◌∷◌, ◌++◌, flat_map}
use Rattle.layout.specs.Choice.{pick}
use Rattle.layout.specs.Records.{be32}
use Rattle.writer.specs.declared.Looping.{Looping}
use Rattle.writer.specs.declared.Looping.TheVariants.{Disabled, Enabled, Auto}
use Rattle.c_record.specs.declared.Fields.{Fields}
use Rattle.c_opened.specs.KeptReader.{be64}

-- ---- Numbers for what is no number

-- The mode's number.
abbrev pub mode_number : Looping → ℕ
mode_number Disabled = 0
mode_number Enabled = 1
mode_number Auto = 2

-- The loop block's offset, the largest u64 where no block is the loop block.
abbrev pub loop_offset_number : Option ℕ → ℕ
loop_offset_number None = 18446744073709551615
loop_offset_number (Some n) = n

-- 1 for yes, 0 for no.
abbrev pub flag_number : Bool → ℕ
flag_number b = pick b 1 0

-- ---- The record's first 88 bytes

-- The places in slot and table, 32 bytes.
unfoldable pub places_bytes : (slot channels count next : ℕ) → List ℕ
places_bytes slot channels count next = flat_map be64 (slot ∷ channels ∷ count ∷ next ∷ [])

-- The sums over the blocks, 32 bytes.
unfoldable pub sums_bytes : (base offset blocks sum : ℕ) → List ℕ
sums_bytes base offset blocks sum = flat_map be64 (base ∷ offset ∷ blocks ∷ sum ∷ [])

-- The loop block and the marks, 24 bytes.
unfoldable pub marks_bytes : Option ℕ → Looping → (id : ℕ) (last finished : Bool) → List ℕ
marks_bytes loopat mode id last finished = be64 (loop_offset_number loopat) ++ flat_map be32 (mode_number mode ∷ id ∷ flag_number last ∷ flag_number finished ∷ [])

-- The numbers of the record.
unfoldable pub number_bytes : Fields → List ℕ
number_bytes s =
    (places_bytes s.setup.slot s.setup.channels s.count s.stream.next ++ sums_bytes s.stream.base s.stream.offset s.stream.blocks s.stream.sum)
    ++ marks_bytes s.stream.loopat s.setup.mode s.stream.id s.stream.last s.finished
