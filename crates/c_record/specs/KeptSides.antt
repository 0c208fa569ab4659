-- What a push says of a channel, and a cue of the table, in lent bytes. A number that is not wholly there is 0.
use Rattle.std.specs.Prelude.{ℕ, zero, suc, ◌+◌, ◌-◌, ◌*◌, Bool, List, [], ◌∷◌, ◌++◌, length, replicate, ltb, eqb, ℤ, Result, Ok, Err}
use Rattle.layout.specs.Choice.{pick, ◌or◌, ◌and◌}
use Rattle.layout.specs.Refusals.{cue_limit}
use Rattle.c_opened.specs.declared.failure.Failure.{Failure}
use Rattle.c_opened.specs.declared.failure.Failure.TheVariants.{NoKind}
use Rattle.writer.specs.Calls.{no_cue}
use Rattle.writer.specs.declared.ChannelBlock.{ChannelBlock}
use Rattle.writer.specs.declared.Cue.{Cue}
use Rattle.writer.specs.declared.CueKind.{CueKind}
use Rattle.layout_number_or_zero.specs.NumberOrZero.{half_at, signed_at, word_at, long_at}

-- ---- Places in the writer's record

-- The numbers come first.
abbrev pub left_at : ℕ
left_at = 88

-- A side's bytes.
abbrev pub side_size : ℕ
side_size = 48

abbrev pub right_at : ℕ
right_at = left_at + side_size

abbrev pub cues_at : ℕ
cues_at = right_at + side_size

-- A cue's bytes.
abbrev pub cue_size : ℕ
cue_size = 24

-- The bytes of a record.
abbrev pub loader_size : ℕ
loader_size = cues_at + cue_size * cue_limit

-- ---- Coefficients

-- n signed numbers from a place on.
unfoldable pub signed_from : List ℕ → (at n : ℕ) → List ℤ
signed_from s at zero = []
signed_from s at (suc n) = signed_at s at ∷ signed_from s (at + 2) n

-- ---- A side

-- A side: rate, length, 16 coefficients, gain, context.
unfoldable pub side_in : List ℕ → (at : ℕ) → ChannelBlock
side_in s at =
    record {
      rate = word_at s at;
      length = word_at s (at + 4);
      coefficients = signed_from s (at + 8) 16;
      gain = half_at s (at + 40);
      context = record { predictor_and_scale = half_at s (at + 42); last = signed_at s (at + 44); oldest = signed_at s (at + 46) };
    }

-- Whether a side of a channel of the push has too few bytes: the left one, and the right one in stereo.
unfoldable pub sides_short : (channels : ℕ) (left right : List ℕ) → Bool
sides_short ch l r = ltb (length l) side_size or (eqb ch 2 and ltb (length r) side_size)

-- ---- A cue

-- This of a number from 0 to 2: there are three kinds of cues, and three looping modes.
abbrev pub where_kind : {A : Type 0} → (number : ℕ) → A → Result A Failure
where_kind n x = pick (ltb 2 n) (Err NoKind) (Ok x)

-- 0 a point, 1 a loop, any other number a range of this length.
unfoldable pub kind_of : (number range : ℕ) → CueKind
kind_of n r = pick (eqb n 0) CueKind.Point (pick (eqb n 1) CueKind.Loop (CueKind.Range r))

-- A cue: start, range length, kind, name.
unfoldable pub cue_in : List ℕ → (at : ℕ) → Cue
cue_in s at = record { start = long_at s at; kind = kind_of (word_at s (at + 16)) (long_at s (at + 8)); name = word_at s (at + 20) }

-- n cues from a place on.
unfoldable pub cues_kept : List ℕ → (at n : ℕ) → List Cue
cues_kept s at zero = []
cues_kept s at (suc n) = cue_in s at ∷ cues_kept s (at + cue_size) n

-- The table of n cues from a place on, in a table of zeros.
unfoldable pub table_in : List ℕ → (at n : ℕ) → List Cue
table_in s at n = cues_kept s at n ++ replicate (cue_limit - n) no_cue
