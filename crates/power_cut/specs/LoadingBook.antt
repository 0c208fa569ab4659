-- The loading book (document 01). It is fed the arguments of the calls, and of a lent buffer its length alone; nothing here knows the program's record.
use Rattle.std.specs.Prelude.{ℕ, suc, ◌+◌, ◌-◌, Bool, true, false, List, [], ◌∷◌, ◌++◌, map, length, drop, get_or, replicate, ltb, leb, eqb, Option, Some, None}
use Rattle.layout.specs.Choice.{pick, ◌or◌}
use Rattle.layout.specs.Lists.{filter, any, sum, first_index}
use Rattle.layout.specs.Records.{padded_size, first_block_offset, adpcm_samples, data_after}
use Rattle.layout.specs.Refusals.{block_limit}
use Rattle.layout.specs.declared.DspFormat.TheVariants.{Adpcm}
use Rattle.reader.specs.OpeningAndReading.{BlockAnswer, refused, ended, gave}
use Rattle.reader.specs.CuesReadBack.{CueAnswer}
use Rattle.reader.specs.declared.HpsReader.{HpsReader}
use Rattle.writer.specs.Loading.{Side, Push, Call, Answer, answer_by, by_mode, loops, has, insert, cue_refusal, length_of, points, any_loop, block_size, PushState, empty_push}
use Rattle.writer.specs.Loading.{push_refusal, finish_refusal, no_block, filled, second}
use Rattle.writer.specs.declared.Looping.{Looping}
use Rattle.writer.specs.declared.Cue.{Cue}
use Rattle.writer.specs.declared.ChannelBlock.{ChannelBlock}

-- "A push enters its block: the arguments; its offset, ..; b, the samples of all earlier blocks; the cues it takes"
pub record Block : Type 0 where
  pub push : Push
  pub offset : ℕ
  pub base : ℕ
  pub cues : List Cue

-- "It keeps slot length, channel count, mode, cues in order, blocks, finished or not."
pub record Book : Type 0 where
  pub slot_length : ℕ
  pub channels : ℕ
  pub mode : Looping
  pub cues : List Cue
  pub blocks : List Block
  pub finished : Bool

-- "It is fed the arguments of begin": the book after an accepted one
abbrev pub begun : (slot_length channels : ℕ) → Looping → Book
begun n ch m = record { slot_length = n; channels = ch; mode = m; cues = []; blocks = []; finished = false }

-- ---- What the blocks come to

-- "b, the samples of all earlier blocks"
unfoldable pub base_of : List Block → ℕ
base_of bs = sum (λ k. adpcm_samples (length_of k.push)) bs

-- "sum of lengths"
abbrev pub lengths_of : List Block → ℕ
lengths_of bs = sum (λ k. length_of k.push) bs

-- "Its end is offset + 32 + P(8 × its points and ranges) + size."
abbrev pub end_of : Block → ℕ
end_of k = k.offset + block_size k.cues k.push

-- "its offset, 128 or the former's end"; "the last block's end as the finished length"
unfoldable pub end_of_blocks : List Block → ℕ
end_of_blocks [] = first_block_offset
end_of_blocks (k ∷ []) = end_of k
end_of_blocks (k ∷ l ∷ ks) = end_of_blocks (l ∷ ks)

-- "26 push after the last block": has a push had the mark?
unfoldable pub last_pushed : List Block → Bool
last_pushed bs = any (λ k. k.push.last) bs

-- The first block's sides.
abbrev pub first_left : List Block → ChannelBlock
first_left [] = no_block
first_left (k ∷ ks) = k.push.left.block

-- The right one counts only in stereo.
abbrev pub first_right : List Block → ChannelBlock
first_right [] = no_block
first_right (k ∷ ks) = k.push.right.block

-- How many cues the blocks have taken.
abbrev pub taken_by : List Block → ℕ
taken_by bs = sum (λ k. length k.cues) bs

-- ---- The calls

-- "A cue enters unless its equal is there."
abbrev pub with_cue : Book → Cue → Book
with_cue b c =
    record { slot_length = b.slot_length; channels = b.channels; mode = b.mode; cues = pick (has c b.cues) b.cues (insert c b.cues); blocks = b.blocks; finished = b.finished }

-- "takes the cues not yet taken whose start is below b + n; the last takes all that remain": cues are in order, so those not yet taken come after the
-- first so many
unfoldable pub takes : Book → Push → List Cue
takes b p =
    filter (λ c. p.last or ltb c.start (base_of b.blocks + adpcm_samples (length_of p))) (drop (taken_by b.blocks) b.cues)

-- The block that a push enters.
unfoldable pub enters : Book → Push → Block
enters b p = record { push = p; offset = end_of_blocks b.blocks; base = base_of b.blocks; cues = takes b p }

-- "A push enters its block"
abbrev pub with_block : Book → Push → Book
with_block b p =
    record { slot_length = b.slot_length; channels = b.channels; mode = b.mode; cues = b.cues; blocks = b.blocks ++ (enters b p ∷ []); finished = b.finished }

-- An empty push: "the loading book accepts them and stays as it is" (document 02, Card 2).
abbrev pub with_push : Book → Push → Book
with_push b p = pick (empty_push p) b (with_block b p)

-- "An accepted finish makes the book finished"
abbrev pub with_finish : Book → Book
with_finish b =
    record { slot_length = b.slot_length; channels = b.channels; mode = b.mode; cues = b.cues; blocks = b.blocks; finished = true }

-- What push's order asks of the book.
abbrev pub state_of : Book → PushState
state_of b =
    record {
      slot_length = b.slot_length;
      channels = b.channels;
      blocks = length b.blocks;
      last = last_pushed b.blocks;
      offset = end_of_blocks b.blocks;
      left = first_left b.blocks;
      right = first_right b.blocks;
    }

-- "A call gets the first number due in its order by its arguments and what the book keeps"
abbrev pub number_due : Book → Call → ℕ
number_due b (Call.cue c) = cue_refusal (length b.blocks) b.cues c
number_due b (Call.push p lent) = push_refusal (state_of b) (takes b p) p (length lent)
number_due b (Call.finish lent) = finish_refusal b.finished (length b.blocks) (last_pushed b.blocks) (length lent)

-- The book after an accepted call.
abbrev pub book_next : Book → Call → Book
book_next b (Call.cue c) = with_cue b c
book_next b (Call.push p lent) = with_push b p
book_next b (Call.finish lent) = with_finish b

-- "and gives the last block's end as the finished length"
abbrev pub length_given : Book → Call → ℕ
length_given b (Call.cue c) = 0
length_given b (Call.push p lent) = 0
length_given b (Call.finish lent) = end_of_blocks b.blocks

-- "with none due, or an equal cue met first, it is accepted"
abbrev pub book_answer : Book → Call → Answer
book_answer b c = answer_by (number_due b c) (length_given b c)

-- "and the book stays"
abbrev pub book_after : Book → Call → Book
book_after b c = pick (eqb (number_due b c) 0) (book_next b c) b

-- The answers that a list of calls gets.
unfoldable pub book_answers : Book → List Call → List Answer
book_answers b [] = []
book_answers b (c ∷ cs) = book_answer b c ∷ book_answers (book_after b c) cs

-- The book after a list of calls.
unfoldable pub book_run : Book → List Call → Book
book_run b [] = b
book_run b (c ∷ cs) = book_run (book_after b c) cs

-- ---- The loop block

-- "as if a Loop at 0 stood first ..; it falls past a first block of 0 samples that isn't the last": does this block take it, unless an earlier one does?
abbrev pub implied_loop : Block → Bool
implied_loop k = k.push.last or ltb 0 (k.base + adpcm_samples (length_of k.push))

-- "The first Loop cue makes its block the loop block, unless Disabled"; "Enabled with no Loop cue works as if a Loop at 0 stood first":
-- its index, the number of blocks where there is none
unfoldable pub loop_block : Book → ℕ
loop_block b =
    let asked = first_index (λ k. any_loop k.cues) b.blocks in
    by_mode b.mode (length b.blocks) (pick (any_loop b.cues) asked (first_index implied_loop b.blocks)) asked

-- ---- What the reading calls give once it is finished

-- "offsets of the blocks"
abbrev pub offsets_of : List Block → List ℕ
offsets_of bs = map (λ k. k.offset) bs

-- "the loop block's index or none"
abbrev pub loop_start : Book → Option ℕ
loop_start b = pick (ltb (loop_block b) (length b.blocks)) (Some (loop_block b)) None

-- "opening, the first block's rate, the channel count, the channels as finish fills them, count and offsets of the blocks (zeros beyond), the loop block's index or none"
unfoldable pub opening_of : Book → HpsReader
opening_of b =
    record {
      rate = (first_left b.blocks).rate;
      count = b.channels;
      channels = filled (lengths_of b.blocks) (first_left b.blocks) ∷ second b.channels (lengths_of b.blocks) (first_right b.blocks) ∷ [];
      blocks = length b.blocks;
      offsets = offsets_of b.blocks ++ replicate (block_limit - length b.blocks) 0;
      loop_start = loop_start b;
    }

-- "in that channel"
abbrev pub side_of : Push → (channel : ℕ) → Side
side_of p ch = pick (eqb ch 1) p.right p.left

-- "the first block's .. coefficients and gain": in that channel
abbrev pub first_side : List Block → (channel : ℕ) → ChannelBlock
first_side bs ch = pick (eqb ch 1) (first_right bs) (first_left bs)

-- Where a block's data stands: after its header and filled cues, the right side's after the padded left one.
abbrev pub data_at : Block → (channel : ℕ) → ℕ
data_at k ch = k.offset + data_after (points k.cues) + pick (eqb ch 1) (padded_size (length k.push.left.bytes)) 0

-- "at block i its data, length and context in that channel, ADPCM, the first block's rate, coefficients and gain, and position i + 1, past the last the end":
-- of the blocks from i on
abbrev pub given : List Block → (channel i : ℕ) → List Block → BlockAnswer
given bs ch i [] = ended
given bs ch i (k ∷ ks) =
    gave (first_left bs).rate Adpcm (first_side bs ch).coefficients (first_side bs ch).gain (length_of k.push) (side_of k.push ch).block.context
    (data_at k ch) (side_of k.push ch).bytes (i + 1)

-- "block read, after 6, .."
unfoldable pub block_of : Book → (channel position : ℕ) → BlockAnswer
block_of b ch i = pick (leb b.channels ch) (refused 6) (given b.blocks ch i (drop i b.blocks))

-- "addresses remaining, the sum of lengths from there on"
unfoldable pub remaining_of : Book → (position : ℕ) → ℕ
remaining_of b i = lengths_of (drop i b.blocks)

-- "points and ranges in order as Points at their starts, named 1, 2, .. over the stream": from n on
unfoldable pub named : ℕ → List Cue → List CueAnswer
named n [] = []
named n (c ∷ cs) = pick (loops c.kind) (named n cs) (CueAnswer.point c.start n ∷ named (suc n) cs)

-- "block by block the Loop at b on the loop block, then points and ranges": from block i on
unfoldable pub cues_from : Book → (i n : ℕ) → List Block → List CueAnswer
cues_from b i n [] = []
cues_from b i n (k ∷ ks) =
    pick (eqb i (loop_block b)) (CueAnswer.loop k.base ∷ []) [] ++ named n k.cues ++ cues_from b (suc i) (n + points k.cues) ks

-- "named 1, 2, ... over the stream"
unfoldable pub cues_of : Book → List CueAnswer
cues_of b = cues_from b 0 1 b.blocks

-- "cue calls, from the first cursor on, .., then the end": the n-th, counted from 0
abbrev pub nth_cue_of : Book → (n : ℕ) → CueAnswer
nth_cue_of b n = get_or (cues_of b) n CueAnswer.ended
