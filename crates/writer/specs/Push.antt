-- Push (document 01, "Loading"), by the numbers that its code works with: the cues that a block takes, the loop block, the next offset, and the stream
-- after it. `push_of` in Calls and the plan of push's code are both made of these; its order and its sizes stand in Loading.
use Rattle.std.specs.Prelude.{Option, Some, None}
use Rattle.std.specs.Prelude.{ℕ, suc, ◌+◌, Bool, false, List, [], ◌∷◌, length, take, ltb, eqb}
use Rattle.std.proofs.Math.Seq.{slice}
use Rattle.layout.specs.Choice.{pick, ◌or◌}
use Rattle.layout.specs.Records.{end_block_offset}
use Rattle.writer.specs.Loading.{by_mode}
use Rattle.writer.specs.declared.Looping.{Looping}
use Rattle.writer.specs.declared.Cue.{Cue}
use Rattle.writer.specs.declared.ChannelBlock.{ChannelBlock}
use Rattle.writer.specs.declared.Stream.{Stream}

-- ---- The cues that a block takes

-- How many of the cues start below a limit, up to the first that does not.
unfoldable pub below : ℕ → List Cue → ℕ
below lim [] = 0
below lim (c ∷ cs) = pick (ltb c.start lim) (suc (below lim cs)) 0

-- "takes the cues not yet taken whose start is below b + n; the last takes all that remain": how many of the table's cues from one place to another, by
-- the sample that the block ends before
unfoldable pub count_taken : List Cue → (from count end : ℕ) (last : Bool) → ℕ
count_taken t from n end last = pick last (length (slice from n t)) (below end (slice from n t))

-- These cues.
unfoldable pub cues_taken : List Cue → (from count end : ℕ) (last : Bool) → List Cue
cues_taken t from n end last = take (count_taken t from n end last) (slice from n t)

-- ---- The loop block and the next offset

-- Whether the block would be the loop block, by whether the table has a Loop and whether the block takes one: not if Disabled; where it takes a Loop cue;
-- or where Enabled, no Loop cue is in the table, and the block is the last or ends past sample 0.
unfoldable pub loops_here : Looping → (held asked : Bool) (end : ℕ) (last : Bool) → Bool
loops_here m held asked end last = by_mode m false (pick held asked (last or ltb 0 end)) asked

-- "The first Loop cue makes its block the loop block ..; later Loops are dropped."
abbrev pub or_at : Option ℕ → Option ℕ → Option ℕ
or_at None l = l
or_at (Some n) l = Some n

-- The loop block's offset after a block at this one.
abbrev pub loop_from : Option ℕ → (offset : ℕ) → (here : Bool) → Option ℕ
loop_from l o here = or_at l (pick here (Some o) None)

-- "the loop block's, else 4,294,967,295"
abbrev pub at_or_none : Option ℕ → ℕ
at_or_none None = end_block_offset
at_or_none (Some n) = n

-- "Next offset is the following block's; in the last block the loop block's, else 4,294,967,295."
abbrev pub next_offset : (last : Bool) → Option ℕ → (following : ℕ) → ℕ
next_offset last l o = pick last (at_or_none l) o

-- ---- The stream afterwards

-- The stream after a block of this size: the cues are taken up to a place, so many of them points and ranges; it ends before this sample and leaves this
-- loop block. The first block's sides are kept.
unfoldable pub advanced : Stream → (to points end size : ℕ) → Option ℕ → (left right : ChannelBlock) (last : Bool) → Stream
advanced s to k end size loopat l r last =
    record {
      next = to;
      id = s.id + k;
      base = end;
      offset = s.offset + size;
      loopat = loopat;
      blocks = s.blocks + 1;
      sum = s.sum + l.length;
      left = pick (eqb s.blocks 0) l s.left;
      right = pick (eqb s.blocks 0) r s.right;
      last = last;
    }
