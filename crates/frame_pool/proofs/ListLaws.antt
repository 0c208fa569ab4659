-- The statements on lists: an invariant of the numbers, and for the two lists a count that goes by the decoder's own calls alone.
use Prim.Native.Nat.{ℕ, ◌+◌, ◌-◌, ◌≤◌, ◌<◌}
use mathlib.Core.Path.{◌≡◌, refl, sym, ap, ◌∙◌}
use mathlib.Core.Bool.{true, false}
use mathlib.Core.List.{List, [], ◌∷◌}
use native.Mathlib.Omega.{arith}
use lib.ListN.{length, get_or}
use lib.Dec.{ltb}
use borrow.Author.Tests.{lt-ltb, le-ltb, ltb-true, ltb-false}
use Rattle.std.specs.Prelude.{Some, None}
use Rattle.layout.specs.Choice.{pick}
use Rattle.layout.specs.Lists.{All}
use Rattle.layout.proofs.Cases.{by_cases, apart}
use Rattle.layout.proofs.ListLaws.{all_head, all_tail}
use Rattle.frame_pool.specs.FramePool.{frame_count, count_marked, highest_free, has_mark, Mark, same_mark, other_decoder, free_frames, held_by, lacks, TakeReply, GiveReply}
use Rattle.frame_pool.specs.FramePool.{is_free, is_held_by, serves, new_pool, take_of, give_of}
use Rattle.frame_pool.specs.HighestFree.{HighestFree}
use Rattle.frame_pool.specs.FrameLists.{PoolCall, after_pool_call, pool_after, OneOfThree, OwnCall, own_calls, TakeAnswer, without_frame, take_answers}
use Rattle.frame_pool.specs.FrameLists.{give_replies, pools_along, SixteenFrames, AlwaysServed, AtMostTen, ServedAlike}
use Rattle.frame_pool.specs.declared.DecoderId.{DecoderId}
use Rattle.frame_pool.specs.declared.Pool.{Pool}
use Rattle.frame_pool.proofs.PoolLaws.{highest-below, mark_inside, mark_outside, take_served, take_refused, give_refused, give_accepted, same_mark-true, eq-same_mark, ne-same_mark}
use Rattle.frame_pool.proofs.SharePremises.{Given, Few}
use Rattle.frame_pool.proofs.MoveLaws.{Took, took, gave, marked-long, highest_free_lem, highest_top}

-- ---- A call's ways

-- a pool with its sixteen frames
abbrev pub Whole : Pool → Type 0
Whole p = length p.marks ≡ frame_count

-- what a take comes to
data Takes (p : Pool) (d e : DecoderId) : Type 0 where
  serving : lacks e p < free_frames p → without_frame (take_of p d).reply ≡ TakeAnswer.served → Whole (take_of p d).pool → Took p (take_of p d).pool d e
      → Takes p d e
  refusing : free_frames p ≤ lacks e p → without_frame (take_of p d).reply ≡ TakeAnswer.refused 32 → (take_of p d).pool ≡ p → Takes p d e

takes_of : (p : Pool) (d : DecoderId) → Whole p → Takes p d (other_decoder d)
takes_of p d w =
    by_cases (serves p d)
    (λ t.
    let h = ltb-true (lacks (other_decoder d) p) (free_frames p) t in
    let e = take_served p d t in
    let l = p.marks in
    let f = highest_free frame_count l in
    let k = highest-below frame_count l (omega arith) in
    serving h (ap (λ r. without_frame r.reply) e)
    (rw e (marked-long p f k w (Some d)))
    (rw e (took p f k w d (highest_free_lem frame_count l (omega arith)))))
    (λ t.
    let e = take_refused p d t in
    refusing (ltb-false (lacks (other_decoder d) p) (free_frames p) t) (ap (λ r. without_frame r.reply) e) (ap (λ r. r.pool) e))

-- a give
data Gives (p : Pool) (d e : DecoderId) (f : ℕ) : Type 0 where
  giving : Whole (give_of p d f).pool → Took (give_of p d f).pool p d e → Gives p d e f
  holding : (give_of p d f).reply ≡ GiveReply.Refused 33 → (give_of p d f).pool ≡ p → Gives p d e f

held-inside : (p : Pool) (d : DecoderId) (f : ℕ) → is_held_by d p f ≡ true → f < frame_count
held-inside p d f t = by_cases (ltb f frame_count) (λ s. ltb-true f frame_count s) (λ s. apart (sym t ∙ mark_outside p.marks (Some d) f (ltb-false f frame_count s)))

gives_of : (p : Pool) (d : DecoderId) (f : ℕ) → Whole p → Gives p d (other_decoder d) f
gives_of p d f w =
    by_cases (is_held_by d p f)
    (λ t.
    let h = held-inside p d f t in
    let e = give_accepted p d f t in
    giving (rw e (marked-long p f h w None))
    (rw e (gave p f h w d (same_mark-true (get_or p.marks f None) (Some d) (sym (mark_inside p.marks (Some d) f h) ∙ t)))))
    (λ t.
    let e = give_refused p d f t in
    holding (ap (λ r. r.reply) e) (ap (λ r. r.pool) e))

-- ---- The invariant

-- the frames come to sixteen, and what both lack to six is free
record Counted (p : Pool) : Type 0 where
  whole : Whole p
  sum : free_frames p + (held_by DecoderId.A p + held_by DecoderId.B p) ≡ frame_count
  room : lacks DecoderId.A p + lacks DecoderId.B p ≤ free_frames p

took-counted : (p q : Pool) (d : DecoderId) → lacks (other_decoder d) p < free_frames p → Counted p → Whole q → Took p q d (other_decoder d) → Counted q
took-counted p q DecoderId.A h g w t = record { whole = w; sum = omega arith; room = omega arith }
took-counted p q DecoderId.B h g w t = record { whole = w; sum = omega arith; room = omega arith }

gave-counted : (p q : Pool) (d : DecoderId) → Counted p → Whole q → Took q p d (other_decoder d) → Counted q
gave-counted p q DecoderId.A g w t = record { whole = w; sum = omega arith; room = omega arith }
gave-counted p q DecoderId.B g w t = record { whole = w; sum = omega arith; room = omega arith }

take_counted : (p : Pool) (d : DecoderId) → Counted p → Takes p d (other_decoder d) → Counted (take_of p d).pool
take_counted p d g (serving h s w t) = took-counted p (take_of p d).pool d h g w t
take_counted p d g (refusing h s e) = rw e g

give_counted : (p : Pool) (d : DecoderId) (f : ℕ) → Counted p → Gives p d (other_decoder d) f → Counted (give_of p d f).pool
give_counted p d f g (giving w t) = gave-counted p (give_of p d f).pool d g w t
give_counted p d f g (holding s e) = rw e g

call_counted : (p : Pool) (c : PoolCall) → Counted p → Counted (after_pool_call p c)
call_counted p (PoolCall.takes d) g = take_counted p d g (takes_of p d g.whole)
call_counted p (PoolCall.gives d f) g = give_counted p d f g (gives_of p d f g.whole)

new_counted : Counted new_pool
unfolding count_marked
new_counted = record { whole = refl; sum = refl; room = omega arith }

list_counted : (p : Pool) (cs : List PoolCall) → Counted p → Counted (pool_after p cs)
unfolding pool_after
list_counted p [] g = g
list_counted p (c ∷ cs) g = list_counted (after_pool_call p c) cs (call_counted p c g)

counted : (cs : List PoolCall) → Counted (pool_after new_pool cs)
counted cs = list_counted new_pool cs new_counted

-- of either decoder
sum_of : (p : Pool) (d : DecoderId) → Counted p → free_frames p + (held_by d p + held_by (other_decoder d) p) ≡ frame_count
sum_of p DecoderId.A g = g.sum
sum_of p DecoderId.B g = omega arith

room_of : (p : Pool) (d : DecoderId) → Counted p → lacks d p + lacks (other_decoder d) p ≤ free_frames p
room_of p DecoderId.A g = g.room
room_of p DecoderId.B g = omega arith

-- ---- Sixteen, always served, at most ten, the highest

one_of_three : (m : Mark) → OneOfThree (same_mark m None) (same_mark m (Some DecoderId.A)) (same_mark m (Some DecoderId.B))
one_of_three None = OneOfThree.first
one_of_three (Some DecoderId.A) = OneOfThree.second
one_of_three (Some DecoderId.B) = OneOfThree.third

each_one : (p : Pool) (f : ℕ) → f < frame_count → OneOfThree (is_free p f) (is_held_by DecoderId.A p f) (is_held_by DecoderId.B p f)
each_one p f h =
    let l = p.marks in
    rw (mark_inside l None f h, mark_inside l (Some DecoderId.A) f h, mark_inside l (Some DecoderId.B) f h) (one_of_three (get_or l f None))

pub sixteen : SixteenFrames
unfolding SixteenFrames
sixteen cs = let g = counted cs in record { total = g.sum; each = each_one (pool_after new_pool cs) }

pub always : AlwaysServed
unfolding AlwaysServed
always cs d h =
    let p = pool_after new_pool cs in
    let r = room_of p d (counted cs) in
    (highest_free frame_count p.marks, ap (λ r. r.reply) (take_served p d (lt-ltb (lacks (other_decoder d) p) (free_frames p) (omega arith))))

pub most : AtMostTen
unfolding AtMostTen
most cs d =
    let p = pool_after new_pool cs in
    let g = counted cs in
    omega (arith, sum_of p d g, room_of p d g)

same_frame : (f g : ℕ) → TakeReply.Frame f ≡ TakeReply.Frame g → f ≡ g
same_frame f g e = cc

not_frame : (n f : ℕ) → TakeReply.Refused n ≡ TakeReply.Frame f → ⊥
not_frame n f e = let z : ◌≡◌ {A = ℕ} 0 1 = cc in omega arith

held-above : (l : List Mark) (g : ℕ) → highest_free frame_count l < g → has_mark l None g ≡ false
held-above l g h =
    by_cases (ltb g frame_count)
    (λ t. let k = ltb-true g frame_count t in mark_inside l None g k ∙ ne-same_mark (get_or l g None) None (highest_top frame_count l g h k))
    (λ t. mark_outside l None g (ltb-false g frame_count t))

pub highest : HighestFree
unfolding HighestFree
highest p d f e =
    by_cases (serves p d)
    (λ t.
    let h = ltb-true (lacks (other_decoder d) p) (free_frames p) t in
    let l = p.marks in
    let b = highest-below frame_count l (omega arith) in
    let k = same_frame (highest_free frame_count l) f (sym (ap (λ r. r.reply) (take_served p d t)) ∙ e) in
    rw (← k) (mark_inside l None (highest_free frame_count l) b ∙ eq-same_mark (get_or l (highest_free frame_count l) None) None (highest_free_lem frame_count l (omega arith)), λ g m. held-above l g (omega arith)))
    (λ t. absurd (not_frame 32 f (sym (ap (λ r. r.reply) (take_refused p d t)) ∙ e)))

-- ---- Two lists

-- what the takes of a decoder that holds so many are answered, by its own calls alone
alone : ℕ → List OwnCall → List TakeAnswer
alone n [] = []
alone n (OwnCall.takes ∷ os) = pick (ltb n 10) TakeAnswer.served (TakeAnswer.refused 32) ∷ alone (pick (ltb n 10) (n + 1) n) os
alone n (OwnCall.gives ∷ os) = alone (n - 1) os

-- its own take: served exactly when it holds fewer than ten
own_take : (who : DecoderId) (p : Pool) (rest : List TakeAnswer) (os : List OwnCall) → Counted p → Few who p → Takes p who (other_decoder who)
    → rest ≡ alone (held_by who (take_of p who).pool) os → without_frame (take_of p who).reply ∷ rest ≡ alone (held_by who p) (OwnCall.takes ∷ os)
unfolding alone
own_take who p rest os g q (serving h s w t) e =
    rw (s, lt-ltb (held_by who p) 10 (omega (arith, sum_of p who g)))
    (ap {B = List TakeAnswer} (λ l. TakeAnswer.served ∷ l) (e ∙ ap (λ (n : ℕ). alone n os) t.own))
own_take who p rest os g q (refusing h s t) e =
    rw (s, le-ltb (held_by who p) 10 (omega (arith, sum_of p who g)))
    (ap {B = List TakeAnswer} (λ l. TakeAnswer.refused 32 ∷ l) (e ∙ ap (λ (q : Pool). alone (held_by who q) os) t))

-- the other's
other_take : (who d : DecoderId) (p : Pool) → Takes p d who → held_by who (take_of p d).pool ≡ held_by who p
other_take who d p (serving h s w t) = t.other
other_take who d p (refusing h s t) = ap (held_by who) t

not_given : (n : ℕ) (r : GiveReply) → r ≡ GiveReply.Refused n → r ≡ GiveReply.Given → ⊥
not_given n r a b = let z : ◌≡◌ {A = ℕ} 0 1 = cc in omega arith

own_give : (who e : DecoderId) (f : ℕ) (p : Pool) → Given (give_of p who f).reply → Gives p who e f → held_by who (give_of p who f).pool ≡ held_by who p - 1
own_give who e f p v (giving w t) = omega (arith, t.own)
own_give who e f p v (holding s t) = absurd (not_given 33 (give_of p who f).reply s v)

other_give : (who d : DecoderId) (f : ℕ) (p : Pool) → Gives p d who f → held_by who (give_of p d f).pool ≡ held_by who p
other_give who d f p (giving w t) = sym t.other
other_give who d f p (holding s t) = ap (held_by who) t

-- after a take, after a give
module _ (p : Pool) (g : Counted p) (cs : List PoolCall) where
  -- as many are held by the decoder as before
  as_before : (who : DecoderId) {n : ℕ} {answers : List TakeAnswer} → answers ≡ alone n (own_calls who cs) → n ≡ held_by who p
      → answers ≡ alone (held_by who p) (own_calls who cs)
  as_before who e h = e ∙ ap (λ (n : ℕ). alone n (own_calls who cs)) h

  take-case : (who d : DecoderId) → Few who p → take_answers who (take_of p d).pool cs ≡ alone (held_by who (take_of p d).pool) (own_calls who cs)
      → take_answers who p (PoolCall.takes d ∷ cs) ≡ alone (held_by who p) (own_calls who (PoolCall.takes d ∷ cs))
  unfolding take_answers own_calls
  take-case DecoderId.A DecoderId.A q e = own_take DecoderId.A p _ _ g q (takes_of p DecoderId.A g.whole) e
  take-case DecoderId.A DecoderId.B q e = as_before DecoderId.A e (other_take DecoderId.A DecoderId.B p (takes_of p DecoderId.B g.whole))
  take-case DecoderId.B DecoderId.A q e = as_before DecoderId.B e (other_take DecoderId.B DecoderId.A p (takes_of p DecoderId.A g.whole))
  take-case DecoderId.B DecoderId.B q e = own_take DecoderId.B p _ _ g q (takes_of p DecoderId.B g.whole) e

  -- one fewer than before
  one_fewer : (who : DecoderId) {n : ℕ} {answers : List TakeAnswer} → answers ≡ alone n (own_calls who cs) → n ≡ held_by who p - 1
      → answers ≡ alone (held_by who p) (OwnCall.gives ∷ own_calls who cs)
  unfolding alone
  one_fewer who e h = e ∙ ap (λ (n : ℕ). alone n (own_calls who cs)) h

  give_case : (who d : DecoderId) (f : ℕ) → Given (give_of p d f).reply
      → take_answers who (give_of p d f).pool cs ≡ alone (held_by who (give_of p d f).pool) (own_calls who cs)
      → take_answers who p (PoolCall.gives d f ∷ cs) ≡ alone (held_by who p) (own_calls who (PoolCall.gives d f ∷ cs))
  unfolding take_answers own_calls
  give_case DecoderId.A DecoderId.A f v e = one_fewer DecoderId.A e (own_give DecoderId.A DecoderId.B f p v (gives_of p DecoderId.A f g.whole))
  give_case DecoderId.A DecoderId.B f v e = as_before DecoderId.A e (other_give DecoderId.A DecoderId.B f p (gives_of p DecoderId.B f g.whole))
  give_case DecoderId.B DecoderId.A f v e = as_before DecoderId.B e (other_give DecoderId.B DecoderId.A f p (gives_of p DecoderId.A f g.whole))
  give_case DecoderId.B DecoderId.B f v e = one_fewer DecoderId.B e (own_give DecoderId.B DecoderId.A f p v (gives_of p DecoderId.B f g.whole))

as_alone : (who : DecoderId) (p : Pool) (cs : List PoolCall) → Counted p → All Given (give_replies p cs) → All (Few who) (pools_along p cs)
    → take_answers who p cs ≡ alone (held_by who p) (own_calls who cs)
unfolding take_answers own_calls give_replies pools_along alone
as_alone who p [] g v a = refl
as_alone who p (PoolCall.takes d ∷ cs) g v a =
    take-case p g cs who d (all_head a) (as_alone who (take_of p d).pool cs (call_counted p (PoolCall.takes d) g) v (all_tail a))
as_alone who p (PoolCall.gives d f ∷ cs) g v a =
    give_case p g cs who d f (all_head v) (as_alone who (give_of p d f).pool cs (call_counted p (PoolCall.gives d f) g) (all_tail v) (all_tail a))

pub alike : ServedAlike
unfolding ServedAlike
alike who cs ds e h k =
    as_alone who new_pool cs new_counted h.given h.few ∙ ap (alone (held_by who new_pool)) e
    ∙ sym (as_alone who new_pool ds new_counted k.given k.few)
