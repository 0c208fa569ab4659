-- The writer's table of cues in lent bytes: the bytes that are put for it, and the table that is read from them again.
use Rattle.std.specs.Prelude.{ℕ, ◌-◌, ◌<◌, take, replicate}
use mathlib.Core.List.{List, ◌++◌, flat_map}
use Rattle.layout.specs.Puts.{put_at}
use Rattle.layout.specs.Records.{be32}
use Rattle.layout.specs.Refusals.{cue_limit}
use Rattle.writer.specs.Loading.{rank, range_length}
use Rattle.writer.specs.Calls.{no_cue}
use Rattle.writer.specs.declared.Cue.{Cue}
use Rattle.c_opened.specs.KeptReader.{be64}
use Rattle.c_record.specs.KeptSides.{cues_at}

-- A cue in 24 bytes: start, range length, kind (0 a point, 1 a loop, 2 a range), name.
unfoldable pub entry_bytes : Cue → List ℕ
entry_bytes c = ((be64 c.start ++ be64 (range_length c.kind)) ++ be32 (rank c.kind)) ++ be32 c.name

-- What a cue's types give: its numbers fit into their bytes.
pub record EntryFits (c : Cue) : Type 0 where
  pub start : c.start < 18446744073709551616
  pub range : range_length c.kind < 18446744073709551616
  pub name : c.name < 4294967296

-- The first n cues, one after the other.
unfoldable pub entries_bytes : List Cue → (n : ℕ) → List ℕ
entries_bytes cues n = flat_map entry_bytes (take n cues)

-- The bytes with the table of n cues: how many they are at byte 16, the cues from byte 184 on.
unfoldable pub table_put : List ℕ → List Cue → (n : ℕ) → List ℕ
table_put kept cues n = put_at (put_at kept 16 (be64 n)) cues_at (entries_bytes cues n)

-- The first n cues of a table, zeros after them.
unfoldable pub first_of : List Cue → (n : ℕ) → List Cue
first_of cues n = take n cues ++ replicate (cue_limit - n) no_cue
