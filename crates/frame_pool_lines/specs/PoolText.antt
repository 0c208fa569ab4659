-- What `bin/pool` prints (document 02, Card 4): the answers to the lines of a text, one a line, up to the first line that says no call.
use Rattle.std.specs.Prelude.{ℕ, ◌/◌, ◌≡◌, false, List, [], ◌∷◌, ◌++◌, length, take, drop, leb, Option, Some, None}
use Rattle.layout.specs.Choice.{pick}
use Rattle.key_lines.specs.Lines.{stop_line}
use Rattle.script_words.specs.Texts.{parted, whole_lines}
use Rattle.frame_pool.specs.FrameLists.{PoolCall, pool_after}
use Rattle.frame_pool.specs.FramePool.{TakeReply, GiveReply}
use Rattle.frame_pool_lines.specs.PoolLines.{said_by, take_line, give_line, no_call_line, call_answer, after_said, new_progress}
use Rattle.frame_pool_lines.specs.declared.says.SaidCall.{SaidCall}
use Rattle.frame_pool_lines.specs.declared.Progress.{Progress}
use Rattle.frame_pool_lines.specs.declared.LinesAnswered.{LinesAnswered}

-- ---- The lines one after the other: each is answered by a line, and after one that says no call there is nothing more

unfoldable pub answers_from : Progress → List (List ℕ) → List ℕ
answers_from g [] = []
answers_from g (l ∷ ls) = pick g.ended [] (call_answer g (said_by l) ++ answers_from (after_said g (said_by l)) ls)

unfoldable pub progress_from : Progress → List (List ℕ) → Progress
progress_from g [] = g
progress_from g (l ∷ ls) = pick g.ended g (progress_from (after_said g (said_by l)) ls)

-- Of a whole text.
abbrev pub pool_text : List ℕ → List ℕ
pool_text text = answers_from new_progress (parted text)

-- ---- Text and answers in lent buffers

-- A line has a byte at least, and an answer 16 at most: with so much room for a text of this length nothing is left out. With less nothing is answered.
abbrev pub answers_in : (room : ℕ) → Progress → (text : List ℕ) → List ℕ
answers_in room g text = pick (leb (length text) (room / 16)) (answers_from g (parted text)) []

abbrev pub answered_in : (room : ℕ) → Progress → (text : List ℕ) → LinesAnswered
answered_in room g text = record { progress = pick (leb (length text) (room / 16)) (progress_from g (parted text)) g; length = length (answers_in room g text) }

-- ---- Small cases, computed

-- A frame taken by A, given back by B in vain, by A with zeros before its number, and a number that no frame has; then a line without a word, and one more.
abbrev pub small_text : List ℕ
small_text =
    (84 ∷ 65 ∷ 75 ∷ 69 ∷ 32 ∷ 65 ∷ 10 ∷ []) ++ (71 ∷ 73 ∷ 86 ∷ 69 ∷ 32 ∷ 66 ∷ 32 ∷ 49 ∷ 53 ∷ 10 ∷ [])
    ++ (71 ∷ 73 ∷ 86 ∷ 69 ∷ 9 ∷ 65 ∷ 32 ∷ 32 ∷ 48 ∷ 49 ∷ 53 ∷ 13 ∷ 10 ∷ []) ++ (71 ∷ 73 ∷ 86 ∷ 69 ∷ 32 ∷ 65 ∷ 32 ∷ 51 ∷ 49 ∷ 10 ∷ [])
    ++ (32 ∷ 10 ∷ []) ++ (84 ∷ 65 ∷ 75 ∷ 69 ∷ 32 ∷ 65 ∷ 10 ∷ [])

pub record PoolTextCases : Type 0 where
  pub answers : pool_text small_text
      ≡ take_line (TakeReply.Frame 15) ++ stop_line 33 ++ give_line GiveReply.Given ++ stop_line 33 ++ no_call_line 5
  -- a last line without its end is one; and it says nothing with a word too many
  pub last : pool_text (84 ∷ 65 ∷ 75 ∷ 69 ∷ 32 ∷ 66 ∷ []) ≡ take_line (TakeReply.Frame 15)
  pub more : pool_text (84 ∷ 65 ∷ 75 ∷ 69 ∷ 32 ∷ 66 ∷ 32 ∷ 66 ∷ []) ≡ no_call_line 1

-- ---- What holds of it

-- The calls that some lines say, up to the first that says none.
abbrev pub then_calls : Option SaidCall → List PoolCall → List PoolCall
then_calls (Some (SaidCall.Take d)) cs = PoolCall.takes d ∷ cs
then_calls (Some (SaidCall.Give d f)) cs = PoolCall.gives d f ∷ cs
then_calls None cs = []

unfoldable pub calls_said : List (List ℕ) → List PoolCall
calls_said [] = []
calls_said (l ∷ ls) = then_calls (said_by l) (calls_said ls)

-- So the lines' pool is that of a list of calls, of which FrameLists speaks.
unfoldable pub LinesAreCalls : Type 0
LinesAreCalls = (g : Progress) (ls : List (List ℕ)) → g.ended ≡ false → (progress_from g ls).pool ≡ pool_after g.pool (calls_said ls)

-- A portion of a text, of which the whole lines are answered, and more behind what is left of it: that comes to all of the text.
pub record PortionsAnswered : Type 0 where
  pub answers : (g : Progress) (portion more : List ℕ)
      → (let n = whole_lines portion in
      let done = parted (take n portion) in
      answers_from g (parted (portion ++ more)) ≡ answers_from g done ++ answers_from (progress_from g done) (parted (drop n portion ++ more)))
  pub progress : (g : Progress) (portion more : List ℕ)
      → (let n = whole_lines portion in
      progress_from g (parted (portion ++ more)) ≡ progress_from (progress_from g (parted (take n portion))) (parted (drop n portion ++ more)))
