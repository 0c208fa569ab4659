-- The cues that a block takes of the table, and their bytes, as push's code works them out.
use Rattle.std.specs.Prelude.{ℕ, ◌≤◌, ◌≡◌, pos}
use mathlib.Core.List.{List, ◌++◌, flat_map}
use Rattle.std.proofs.Math.Seq.{slice}
use Rattle.layout.specs.Records.{cue_bytes, fillers}
use Rattle.layout.specs.declared.CuePoint.{CuePoint}
use Rattle.writer.specs.Loading.{points, points_of, any_loop}
use Rattle.writer.specs.declared.Cue.{Cue}
use Rattle.writer_assign_cues.specs.declared.Taken.{Taken}

-- The cues taken up to a place of the table: that place, how many are points and ranges, whether a Loop is among them.
unfoldable pub tallied : (to : ℕ) → List Cue → Taken
tallied to cs = record { to = to; points = points cs; asked = any_loop cs }

-- A cue point at this sample index.
abbrev pub cue_point : (index id : ℕ) → CuePoint
cue_point i n = record { sample_index = pos i; id = n }

-- The bytes of the points and ranges among these cues, from an id on.
unfoldable pub point_bytes : (base id : ℕ) → List Cue → List ℕ
point_bytes b n cs = flat_map cue_bytes (points_of b n cs)

-- The same with their filler.
unfoldable pub filled_bytes : (base id : ℕ) → List Cue → List ℕ
filled_bytes b n cs = point_bytes b n cs ++ flat_map cue_bytes (fillers (points cs))

-- The cues from one place up to another lie in the table, and so many of them are points and ranges.
pub record Taking (t : List Cue) (from to n : ℕ) : Type 0 where
  pub above : from ≤ to
  pub counted : n ≡ points (slice from to t)
