-- Cues read back (document 01): the cue call and its cursor.
use Rattle.std.specs.Prelude.{ℕ, zero, suc, ◌+◌, ◌*◌, ◌%◌, ◌^◌, Bool, true, false, List, [], ◌∷◌, ltb, eqb, Option, Some, None}
use Rattle.std.specs.Int.{w64}
use Rattle.std.proofs.Common.{of_z}
use Rattle.layout.specs.Choice.{pick, ◌and◌}
use Rattle.layout.specs.Records.{on, read_header, cue_at, length_in, num_samples, block_header_size, cue_point_size}
use Rattle.layout.specs.declared.CuePoint.{CuePoint}
use Rattle.reader.specs.declared.HpsReader.{HpsReader}
use Rattle.reader.specs.declared.CueIterator.{CueIterator}
use Rattle.reader.specs.OpeningAndReading.{channel_in, offsets_from}

-- "it gives a cue or the end, and 1 if .."
pub data CueAnswer : Type 0 where
  refused : (number : ℕ) → CueAnswer
  ended : CueAnswer
  loop : (start : ℕ) → CueAnswer
  point : (start name : ℕ) → CueAnswer

-- "a cursor of block, cue place, base and whether the Loop is still due"
abbrev pub cursor : (block place base : ℕ) → Bool → CueIterator
cursor i j b d = record { block = i; place = j; base = b; due = d }

-- Is there a loop?
abbrev pub looped : Option ℕ → Bool
looped None = false
looped (Some j) = true

-- "the first cursor" on a record: its Loop is due if it has one
abbrev pub first_cursor : HpsReader → CueIterator
first_cursor r = cursor 0 0 0 (looped r.loop_start)

-- A cue call's answer and the cursor after it.
pub record CueStep : Type 0 where
  pub answer : CueAnswer
  pub after : CueIterator

-- An answer and the cursor after it.
abbrev pub stepped : CueAnswer → CueIterator → CueStep
stepped a c = record { answer = a; after = c }

-- "on the loop block"
abbrev pub loop_here : Option ℕ → ℕ → Bool
loop_here None i = false
loop_here (Some j) i = eqb i j

-- "each cue as Point, its id as name, at base + index sign-extended, the sum taken modulo 2^64"
abbrev pub point_of : (base : ℕ) → CuePoint → CueAnswer
point_of b c = CueAnswer.point ((b + of_z w64 c.sample_index) % 2 ^ 64) c.id

-- "Base is the sum of samples of earlier blocks in channel 0's format.": one more block's, in 64 bits
abbrev pub base_after : HpsReader → (base data_length : ℕ) → ℕ
base_after r b n = (b + num_samples (channel_in r 0).format n) % 2 ^ 64

-- "Blocks in order; on the loop block first a Loop cue at base, then each cue ..": a step over the offsets from block i on, at place j;
-- "1 if a header that it reads, filled cues included, leaves the slot", and the cursor c from which the call came is left
unfoldable pub cue_from : List ℕ → HpsReader → (c : CueIterator) → List ℕ → (i j base : ℕ) → Bool → CueStep
cue_from s r c [] i j b d = stepped CueAnswer.ended (cursor i j b d)
cue_from s r c (o ∷ os) i j b d =
    pick (d and loop_here r.loop_start i) (stepped (CueAnswer.loop b) (cursor i j b false))
    (on (read_header s o) (λ n. stepped (CueAnswer.refused n) c) (λ h.
    pick (ltb j h.cues) (stepped (point_of b (cue_at s (o + block_header_size + cue_point_size * j))) (cursor i (j + 1) b d))
    (cue_from s r c os (i + 1) 0 (base_after r b (length_in h)) d)))

-- "A cue call steps as `CueIterator::next` does, from a cursor"
unfoldable pub cue_step : List ℕ → HpsReader → CueIterator → CueStep
cue_step s r c = cue_from s r c (offsets_from r c.block) c.block c.place c.base c.due

-- The n-th cue call from a cursor, counted from 0.
unfoldable pub nth_cue : List ℕ → HpsReader → CueIterator → (n : ℕ) → CueAnswer
nth_cue s r c zero = (cue_step s r c).answer
nth_cue s r c (suc n) = nth_cue s r (cue_step s r c).after n
