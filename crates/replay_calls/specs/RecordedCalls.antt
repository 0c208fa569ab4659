-- The call that a recorded step says, and the estimate that a recorded case asks for.
use Rattle.std.specs.Prelude.{ℕ, ◌+◌, List, [], ◌∷◌, replicate, eqb, pos, Result, Ok, Err}
use Rattle.layout.specs.Choice.{pick}
use Rattle.layout.specs.Records.{field, i16s}
use Rattle.layout.specs.Refusals.{block_limit}
use Rattle.layout.specs.Answers.{value_or}
use Rattle.layout_number_or_zero.specs.NumberOrZero.{half_at, signed_at, word_at, long_at}
use Rattle.replay_input.specs.Parts.{part_at}
use Rattle.writer.specs.Loading.{Push, Answer, push_args, mode_of}
use Rattle.writer.specs.Estimate.{estimate_of}
use Rattle.writer.specs.Calls.{Outcome, begin_of, cue_of, push_of, finish_of}
use Rattle.writer.specs.declared.CueKind.{CueKind}
use Rattle.writer.specs.declared.CueKind.TheVariants.{Point, Loop, Range}
use Rattle.writer.specs.declared.Cue.{Cue}
use Rattle.writer.specs.declared.ChannelBlock.{ChannelBlock}
use Rattle.writer.specs.declared.HpsWriter.{HpsWriter}
use Rattle.replay_calls.specs.declared.Step.{Step}
use Rattle.replay_calls.specs.declared.UnknownStep.{UnknownStep}

-- ---- What is done by a step: 0 which call, 4 and 28 what the caller looks at, else what the call is given

-- 1 bytes put into the slot, 2 begin, 3 cue, 4 push, 5 finish, 6 bytes found in the slot.
abbrev pub step_of : (number : ℕ) → Result Step UnknownStep
step_of n =
    pick (eqb n 1) (Ok Step.Put)
    (pick (eqb n 2) (Ok Step.Begin)
    (pick (eqb n 3) (Ok Step.Cue)
    (pick (eqb n 4) (Ok Step.Push)
    (pick (eqb n 5) (Ok Step.Finish)
    (pick (eqb n 6) (Ok Step.Find) (Err (record { 0 = n })))))))

-- 0 a point, 1 a loop, else a range of this length.
unfoldable pub kind_of : (n range : ℕ) → CueKind
kind_of n l = pick (eqb n 0) Point (pick (eqb n 1) Loop (Range l))

-- A begin: 8 the slot's length, 12 channels, 16 mode.
unfoldable pub begun : (step lent : List ℕ) → Outcome
begun s lent = begin_of (word_at s 8) (word_at s 12) (mode_of (word_at s 16)) lent

-- A cue: 12 kind, 16 start, 32 name, 36 the length of a range.
unfoldable pub cue_in : (step : List ℕ) → Cue
cue_in s = record { start = long_at s 16; kind = kind_of (word_at s 12) (long_at s 36); name = word_at s 32 }

-- A channel of a push, from an offset on: 0 rate, 4 length, 12 coefficients, zeros where they are not wholly there, 44 gain, 46 context.
unfoldable pub side_at : (step : List ℕ) (at : ℕ) → ChannelBlock
side_at s at =
    record {
      rate = word_at s at;
      length = long_at s (at + 4);
      coefficients = value_or (replicate 16 (pos 0)) (field s (at + 12 + 32) (i16s s (at + 12) 16));
      gain = half_at s (at + 44);
      context = record { predictor_and_scale = half_at s (at + 46); last = signed_at s (at + 48); oldest = signed_at s (at + 50) };
    }

-- A push: 12 channels, 16 whether it is the last, 20 and 24 how many bytes of data each side has; from 32 on the left side, its data, the right side, its data.
unfoldable pub push_in : (step : List ℕ) → Push
push_in s =
    push_args (word_at s 12) (side_at s 32) (side_at s (84 + word_at s 20)) (part_at s 84 (word_at s 20)) (part_at s (136 + word_at s 20) (word_at s 24))
    (eqb (word_at s 16) 1)

-- A call that is lent no buffer leaves the step's as it was.
abbrev pub with_lent : Outcome → (lent : List ℕ) → Outcome
with_lent o lent = record { reply = o.reply; lent = lent; writer = o.writer }

-- The same, of the step that it is.
abbrev pub made_by : Result Step UnknownStep → (step : List ℕ) → HpsWriter → (lent : List ℕ) → Outcome
made_by (Ok Step.Begin) s w lent = begun s lent
made_by (Ok Step.Cue) s w lent = with_lent (cue_of w (cue_in s)) lent
made_by (Ok Step.Push) s w lent = push_of w (push_in s) lent
made_by _ s w lent = finish_of w lent

-- What the step's call leaves: that of begin, cue or push, else finish.
unfoldable pub made_as : (step : List ℕ) → HpsWriter → (lent : List ℕ) → Outcome
made_as s w lent = made_by (step_of (word_at s 0)) s w lent

-- ---- The estimate

-- One block of a length, as many as a stream may have, or one more; or two, with this length and another.
unfoldable pub lengths_of : (blocks first other : ℕ) → List ℕ
lengths_of n l o = pick (eqb n 1) (l ∷ []) (pick (eqb n 2) (l ∷ o ∷ []) (pick (eqb n block_limit) (replicate block_limit l) (replicate (block_limit + 1) l)))

-- The estimate of a case: 4 blocks, 8 length, 16 the other length, 24 channels, 28 p.
unfoldable pub estimate_in : (body : List ℕ) → Answer
estimate_in s = estimate_of (word_at s 24) (lengths_of (word_at s 4) (long_at s 8) (long_at s 16)) (word_at s 28)
