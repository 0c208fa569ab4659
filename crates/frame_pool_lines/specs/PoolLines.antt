-- Takes and gives as lines of a text (document 02, Card 4): the call that a line says, and the line of its answer.
use Rattle.std.specs.Prelude.{ℕ, ◌+◌, ◌≡◌, true, false, List, [], ◌∷◌, length, ltb, eqb, Option, Some, None, Result, Ok, Err}
use Rattle.std.specs.Option.{option_or}
use Rattle.layout.specs.Answers.{number_of}
use Rattle.layout.specs.declared.refusal.Refusal.{Refusal}
use Rattle.layout.specs.Choice.{pick}
use Rattle.layout.specs.Lists.{same}
use Rattle.layout.specs.Sizes.{saturated}
use Rattle.key_lines.specs.Lines.{line, stop_line, LinePut}
use Rattle.key_lines.specs.declared.Column.TheVariants.{Number}
use Rattle.script_words.specs.Texts.{word_from, word_count}
use Rattle.script_words.specs.Numbers.{decimal_of, is_decimal}
use Rattle.frame_pool.specs.FramePool.{frame_count, new_pool, TakeReply, GiveReply, take_of, give_of}
use Rattle.frame_pool.specs.declared.DecoderId.{DecoderId}
use Rattle.frame_pool.specs.declared.Pool.{Pool}
use Rattle.frame_pool_lines.specs.declared.says.SaidCall.{SaidCall}
use Rattle.frame_pool_lines.specs.declared.Progress.{Progress}
use Rattle.frame_pool_lines.specs.declared.LinesAnswered.{LinesAnswered}

-- ---- What a line says: `TAKE A`, `TAKE B`, `GIVE A n` or `GIVE B n`, or none of these

-- The longest line that says a call.
abbrev pub line_limit : ℕ
line_limit = 4095

-- 65 is `A`, 66 is `B`.
unfoldable pub decoder_said : List ℕ → Option DecoderId
decoder_said w = pick (same w (65 ∷ [])) (Some DecoderId.A) (pick (same w (66 ∷ [])) (Some DecoderId.B) None)

-- A decimal of any length: one above 15 is the number of no frame, and 16 stands for all of them.
unfoldable pub frame_said : List ℕ → Option ℕ
frame_said w = option_or (decimal_of 15 w) (pick (is_decimal w) (Some frame_count) None)

abbrev pub take_said : Option DecoderId → Option SaidCall
take_said None = None
take_said (Some d) = Some (SaidCall.Take d)

abbrev pub give_said : Option DecoderId → Option ℕ → Option SaidCall
give_said None f = None
give_said (Some d) None = None
give_said (Some d) (Some f) = Some (SaidCall.Give d f)

-- By its words, of which there may be none too many.
unfoldable pub words_said : List ℕ → Option SaidCall
words_said l =
    pick (same (word_from l 0) (84 ∷ 65 ∷ 75 ∷ 69 ∷ []))
    (pick (eqb (word_count l) 2) (take_said (decoder_said (word_from l 1))) None)
    (pick (same (word_from l 0) (71 ∷ 73 ∷ 86 ∷ 69 ∷ []))
    (pick (eqb (word_count l) 3) (give_said (decoder_said (word_from l 1)) (frame_said (word_from l 2))) None) None)

unfoldable pub said_by : List ℕ → Option SaidCall
said_by l = pick (ltb line_limit (length l)) None (words_said l)

-- ---- The line of its answer

-- FRAM and the frame, or STOP and the number
abbrev pub take_line : TakeReply → List ℕ
take_line (TakeReply.Frame f) = line (70 ∷ 82 ∷ 65 ∷ 77 ∷ []) (Number f ∷ [])
take_line (TakeReply.Refused n) = stop_line n

-- DONE, or STOP and the number
abbrev pub give_line : GiveReply → List ℕ
give_line GiveReply.Given = line (68 ∷ 79 ∷ 78 ∷ 69 ∷ []) []
give_line (GiveReply.Refused n) = stop_line n

-- What the code has of a reply: the frame of a take, no frame of a give, or the refusal.
abbrev pub reply_line : Result (Option ℕ) Refusal → List ℕ
reply_line (Ok (Some f)) = take_line (TakeReply.Frame f)
reply_line (Ok None) = give_line GiveReply.Given
reply_line (Err r) = stop_line (number_of r)

-- LINE and the number of a line that says no call
abbrev pub no_call_line : (number : ℕ) → List ℕ
no_call_line n = line (76 ∷ 73 ∷ 78 ∷ 69 ∷ []) (Number n ∷ [])

-- ---- A line, on what the lines before it have left: the pool, the line's number, whether one of them said no call

abbrev pub new_progress : Progress
new_progress = record { pool = new_pool; number = 1; ended = false }

abbrev pub call_answer : Progress → Option SaidCall → List ℕ
call_answer g (Some (SaidCall.Take d)) = take_line (take_of g.pool d).reply
call_answer g (Some (SaidCall.Give d f)) = give_line (give_of g.pool d f).reply
call_answer g None = no_call_line g.number

-- After the line of this number, which said a call; a number has 64 bits.
abbrev pub next_progress : Pool → (number : ℕ) → Progress
next_progress p n = record { pool = p; number = saturated (n + 1); ended = false }

abbrev pub after_said : Progress → Option SaidCall → Progress
after_said g (Some (SaidCall.Take d)) = next_progress (take_of g.pool d).pool g.number
after_said g (Some (SaidCall.Give d f)) = next_progress (give_of g.pool d f).pool g.number
after_said g None = record { pool = g.pool; number = g.number; ended = true }

-- A call's answer put into a lent buffer from an offset on, where it fits, and what is left after it.
pub record CallAnswered (g : Progress) (said : Option SaidCall) (before : List ℕ) (at : ℕ) (after : List ℕ) (r : LinesAnswered) : Type 0 where
  pub line : LinePut before at (call_answer g said) after r.length
  pub progress : r.progress ≡ after_said g said
