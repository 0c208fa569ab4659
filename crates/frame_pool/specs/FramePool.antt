-- Two decoders on one frame pool (document 02, Card 4): who holds what, a take, a give.
use Rattle.std.specs.Prelude.{ℕ, zero, suc, ◌+◌, ◌-◌, Bool, true, false, List, Option, Some, None, Result, Ok, Err, get_or, set, replicate, ltb}
use Rattle.layout.specs.Choice.{pick, ◌and◌}
use Rattle.layout.specs.Answers.{number_of}
use Rattle.layout.specs.declared.refusal.Refusal.{Refusal}
use Rattle.frame_pool.specs.declared.DecoderId.{DecoderId}
use Rattle.frame_pool.specs.declared.Pool.{Pool}
use Rattle.frame_pool.specs.declared.Call.{Call}

-- ---- "The spring model has sixteen frames, numbered 0 to 15, and decoders A and B."

-- "sixteen frames, numbered 0 to 15": the numbers below it
abbrev pub frame_count : ℕ
frame_count = 16

-- A frame's mark: the decoder that holds it, of a free one nobody.
abbrev pub Mark : Type 0
Mark = Option DecoderId

abbrev pub same_decoder : (d e : DecoderId) → Bool
same_decoder DecoderId.A DecoderId.A = true
same_decoder DecoderId.A DecoderId.B = false
same_decoder DecoderId.B DecoderId.A = false
same_decoder DecoderId.B DecoderId.B = true

abbrev pub same_mark : (m n : Mark) → Bool
same_mark None None = true
same_mark None (Some e) = false
same_mark (Some d) None = false
same_mark (Some d) (Some e) = same_decoder d e

-- "the other decoder"
abbrev pub other_decoder : DecoderId → DecoderId
other_decoder DecoderId.A = DecoderId.B
other_decoder DecoderId.B = DecoderId.A

-- How many of the frames below n have a mark.
unfoldable pub count_marked : (n : ℕ) → (mark : Mark) → (marks : List Mark) → ℕ
count_marked zero m l = 0
count_marked (suc n) m l = pick (same_mark (get_or l n None) m) 1 0 + count_marked n m l

-- "the free frames"
abbrev pub free_frames : Pool → ℕ
free_frames p = count_marked frame_count None p.marks

-- "held frames": those that a decoder holds
abbrev pub held_by : DecoderId → Pool → ℕ
held_by d p = count_marked frame_count (Some d) p.marks

-- Is it one of the sixteen, with this mark?
unfoldable pub has_mark : (marks : List Mark) → (mark : Mark) → (frame : ℕ) → Bool
has_mark l m f = ltb f frame_count and same_mark (get_or l f None) m

abbrev pub is_free : Pool → (frame : ℕ) → Bool
is_free p f = has_mark p.marks None f

-- "a frame that the caller" holds
abbrev pub is_held_by : DecoderId → Pool → (frame : ℕ) → Bool
is_held_by d p f = has_mark p.marks (Some d) f

-- "a pool with all frames free"
abbrev pub new_pool : Pool
new_pool = record { marks = replicate frame_count None }

-- The pool with another mark on a frame.
abbrev pub with_mark : Pool → (frame : ℕ) → (mark : Mark) → Pool
with_mark p f m = record { marks = set p.marks f m }

-- ---- A take

-- The number of the frame, or of the refusal.
pub data TakeReply : Type 0 where
  Frame : (frame : ℕ) → TakeReply
  Refused : (number : ℕ) → TakeReply

pub record TakeCall : Type 0 where
  pub reply : TakeReply
  pub pool : Pool

-- "six"
abbrev pub share : ℕ
share = 6

-- "what the other decoder still lacks to six": never below 0, as - stops there
abbrev pub lacks : DecoderId → Pool → ℕ
lacks d p = share - held_by d p

-- "A take succeeds exactly when the free frames outnumber what the other decoder still lacks to six."
abbrev pub serves : Pool → DecoderId → Bool
serves p d = ltb (lacks (other_decoder d) p) (free_frames p)

-- "the highest-numbered free frame": of those below n, 0 where none of them is free
unfoldable pub highest_free : (n : ℕ) → (marks : List Mark) → ℕ
highest_free zero l = 0
highest_free (suc n) l = pick (same_mark (get_or l n None) None) n (highest_free n l)

-- "It gets the highest-numbered free frame."
abbrev pub served_take : Pool → DecoderId → TakeCall
served_take p d =
    let f = highest_free frame_count p.marks in
    record { reply = TakeReply.Frame f; pool = with_mark p f (Some d) }

-- "It refuses with 32 a take not served": the pool stays
abbrev pub refused_take : Pool → TakeCall
refused_take p = record { reply = TakeReply.Refused 32; pool = p }

unfoldable pub take_of : Pool → DecoderId → TakeCall
take_of p d = pick (serves p d) (served_take p d) (refused_take p)

-- ---- A give

pub data GiveReply : Type 0 where
  Given : GiveReply
  Refused : (number : ℕ) → GiveReply

pub record GiveCall : Type 0 where
  pub reply : GiveReply
  pub pool : Pool

-- A decoder "gives it back": the frame is free
abbrev pub accepted_give : Pool → (frame : ℕ) → GiveCall
accepted_give p f = record { reply = GiveReply.Given; pool = with_mark p f None }

-- "and with 33 the return of a frame that the caller doesn't hold": a free one, the other's, or a number above 15; the pool stays
abbrev pub refused_give : Pool → GiveCall
refused_give p = record { reply = GiveReply.Refused 33; pool = p }

unfoldable pub give_of : Pool → DecoderId → (frame : ℕ) → GiveCall
give_of p d f = pick (is_held_by d p f) (accepted_give p f) (refused_give p)

-- ---- What the calls return

abbrev pub take_reply : Result ℕ Refusal → TakeReply
take_reply (Ok f) = TakeReply.Frame f
take_reply (Err r) = TakeReply.Refused (number_of r)

abbrev pub take_says : Call ℕ → TakeCall
take_says c = record { reply = take_reply c.reply; pool = c.pool }

abbrev pub give_reply : Result (Unit {0}) Refusal → GiveReply
give_reply (Ok _) = GiveReply.Given
give_reply (Err r) = GiveReply.Refused (number_of r)

abbrev pub give_says : Call (Unit {0}) → GiveCall
give_says c = record { reply = give_reply c.reply; pool = c.pool }
