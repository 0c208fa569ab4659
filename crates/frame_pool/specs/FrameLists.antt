-- "For every list of takes and gives from a pool with all frames free" (document 02, Card 4): what holds after each, and of two lists.
use Rattle.std.specs.Prelude.{ℕ, ◌+◌, ◌<◌, ◌≤◌, ◌≡◌, Bool, true, false, List, [], ◌∷◌, ◌++◌, replicate}
use Rattle.layout.specs.Choice.{pick}
use Rattle.layout.specs.Lists.{All}
use Rattle.frame_pool.specs.FramePool.{frame_count, share, same_decoder, other_decoder, free_frames, held_by, is_free, is_held_by, new_pool, take_of, give_of, TakeReply, GiveReply}
use Rattle.frame_pool.specs.declared.DecoderId.{DecoderId}
use Rattle.frame_pool.specs.declared.Pool.{Pool}

-- ---- "list of takes and gives"

pub data PoolCall : Type 0 where
  takes : DecoderId → PoolCall
  gives : DecoderId → (frame : ℕ) → PoolCall

-- The pool after a call, by what the contracts of take and give cite; a refused one leaves it.
abbrev pub after_pool_call : Pool → PoolCall → Pool
after_pool_call p (PoolCall.takes d) = (take_of p d).pool
after_pool_call p (PoolCall.gives d f) = (give_of p d f).pool

-- The pool after a list of calls.
unfoldable pub pool_after : Pool → List PoolCall → Pool
pool_after p [] = p
pool_after p (c ∷ cs) = pool_after (after_pool_call p c) cs

-- ---- What holds after every list, and so after every prefix of one

-- Exactly one of three.
pub data OneOfThree : (a b c : Bool) → Type 0 where
  first : OneOfThree true false false
  second : OneOfThree false true false
  third : OneOfThree false false true

-- "free and held frames come to sixteen": and each frame is free or has one holder
pub record Accounted (p : Pool) : Type 0 where
  pub total : free_frames p + (held_by DecoderId.A p + held_by DecoderId.B p) ≡ frame_count
  pub each : (f : ℕ) → f < frame_count → OneOfThree (is_free p f) (is_held_by DecoderId.A p f) (is_held_by DecoderId.B p f)

unfoldable pub SixteenFrames : Type 0
SixteenFrames = (calls : List PoolCall) → Accounted (pool_after new_pool calls)

-- "a decoder holding fewer than six is always served"
unfoldable pub AlwaysServed : Type 0
AlwaysServed =
    (calls : List PoolCall) (who : DecoderId)
    → (let p = pool_after new_pool calls in held_by who p < share → (f : ℕ) × ((take_of p who).reply ≡ TakeReply.Frame f))

-- "none ever holds over ten"
unfoldable pub AtMostTen : Type 0
AtMostTen = (calls : List PoolCall) (who : DecoderId) → held_by who (pool_after new_pool calls) ≤ 10

-- ---- "two such lists that differ only in the other's calls and in the numbers of the frames"

-- A decoder's call without the frame's number.
pub data OwnCall : Type 0 where
  takes : OwnCall
  gives : OwnCall

-- A decoder's own calls, in order: lists that differ only so have the same.
unfoldable pub own_calls : DecoderId → List PoolCall → List OwnCall
own_calls who [] = []
own_calls who (PoolCall.takes d ∷ cs) = pick (same_decoder who d) (OwnCall.takes ∷ []) [] ++ own_calls who cs
own_calls who (PoolCall.gives d f ∷ cs) = pick (same_decoder who d) (OwnCall.gives ∷ []) [] ++ own_calls who cs

-- "served or refused": a take's reply without the frame's number
pub data TakeAnswer : Type 0 where
  served : TakeAnswer
  refused : (number : ℕ) → TakeAnswer

abbrev pub without_frame : TakeReply → TakeAnswer
without_frame (TakeReply.Frame f) = TakeAnswer.served
without_frame (TakeReply.Refused n) = TakeAnswer.refused n

-- "a decoder's takes, in order": what each is answered
unfoldable pub take_answers : DecoderId → Pool → List PoolCall → List TakeAnswer
take_answers who p [] = []
take_answers who p (PoolCall.takes d ∷ cs) =
    pick (same_decoder who d) (without_frame (take_of p d).reply ∷ []) [] ++ take_answers who (take_of p d).pool cs
take_answers who p (PoolCall.gives d f ∷ cs) = take_answers who (give_of p d f).pool cs

-- What the gives of a list are answered, those of both decoders.
unfoldable pub give_replies : Pool → List PoolCall → List GiveReply
give_replies p [] = []
give_replies p (PoolCall.takes d ∷ cs) = give_replies (take_of p d).pool cs
give_replies p (PoolCall.gives d f ∷ cs) = (give_of p d f).reply ∷ give_replies (give_of p d f).pool cs

-- The pools along a list: before its first call and after each.
unfoldable pub pools_along : Pool → List PoolCall → List Pool
pools_along p [] = p ∷ []
pools_along p (c ∷ cs) = p ∷ pools_along (after_pool_call p c) cs

-- "with every give accepted and the other never holding over six"
pub record KeepsToShare (who : DecoderId) (calls : List PoolCall) : Type 0 where
  pub given : All (λ r. r ≡ GiveReply.Given) (give_replies new_pool calls)
  pub few : All (λ p. held_by (other_decoder who) p ≤ share) (pools_along new_pool calls)

-- "a decoder's takes, in order, are served or refused alike"
unfoldable pub ServedAlike : Type 0
ServedAlike =
    (who : DecoderId) (calls others : List PoolCall)
    → own_calls who calls ≡ own_calls who others → KeepsToShare who calls → KeepsToShare who others
    → take_answers who new_pool calls ≡ take_answers who new_pool others

-- ---- Both premises are needed

-- So many takes of a decoder, one after the other.
abbrev pub many_takes : DecoderId → (n : ℕ) → List PoolCall
many_takes d n = replicate n (PoolCall.takes d)

-- So many are served; then one is refused with 32.
abbrev pub then_refused : (n : ℕ) → List TakeAnswer
then_refused n = replicate n TakeAnswer.served ++ (TakeAnswer.refused 32 ∷ [])

-- Two lists with the same calls of A: of the first all takes are served, of the second the last is not.
pub record Unlike (calls others : List PoolCall) (n : ℕ) : Type 0 where
  pub own : own_calls DecoderId.A calls ≡ own_calls DecoderId.A others
  pub all : take_answers DecoderId.A new_pool calls ≡ replicate (n + 1) TakeAnswer.served
  pub last : take_answers DecoderId.A new_pool others ≡ then_refused n

-- The other holds seven: A's tenth take is refused, no frame being free.
abbrev pub seven_first : List PoolCall
seven_first = many_takes DecoderId.B 7 ++ many_takes DecoderId.A 10

-- A takes a frame, which has the number 15, gives one back and takes ten.
abbrev pub giving_back : (frame : ℕ) → List PoolCall
giving_back f = PoolCall.takes DecoderId.A ∷ PoolCall.gives DecoderId.A f ∷ many_takes DecoderId.A 10

pub record PremisesNeeded : Type 0 where
  -- the other over six: no give is refused, for there is none
  pub seven : Unlike (many_takes DecoderId.A 10) seven_first 9
  pub none : give_replies new_pool seven_first ≡ []
  pub holds : held_by DecoderId.B (pool_after new_pool seven_first) ≡ 7
  pub full : free_frames (pool_after new_pool seven_first) ≡ 0
  -- a give refused: the other holds nothing
  pub giving : Unlike (giving_back 15) (giving_back 0) 10
  pub accepted : give_replies new_pool (giving_back 15) ≡ GiveReply.Given ∷ []
  pub refused : give_replies new_pool (giving_back 0) ≡ GiveReply.Refused 33 ∷ []
  pub nothing : held_by DecoderId.B (pool_after new_pool (giving_back 0)) ≡ 0
