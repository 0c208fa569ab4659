-- Each call's writes find room.
use Prim.Native.Nat.{ℕ, zero, suc, ◌+◌, ◌≤◌, min}
use mathlib.Core.Path.{◌≡◌, refl, ap, sym, ◌∙◌}
use mathlib.Core.Bool.{true, false}
use mathlib.Core.List.{List, [], ◌∷◌, ◌++◌, map}
use native.Mathlib.Omega.{arith}
use lib.ListN.{length, take, drop, replicate, length-append, length-take, length-map, length-replicate}
use lib.Dec.{eqb}
use borrow.Author.Tests.{ltb-false, leb-false, eqb-true}
use Rattle.std.specs.Prelude.{Result, Ok, Err}
use Rattle.layout.specs.Answers.{number_of}
use Rattle.layout.specs.declared.refusal.Refusal.{Refusal}
use Rattle.writer.specs.declared.Writes.{Writes}
use Rattle.layout.specs.Lists.{sum}
use Rattle.layout.specs.Puts.{put_at}
use Rattle.layout.proofs.Cases.{by_cases, apart}
use Rattle.writer.specs.WritesAndCuttingRule.{Write, write, place_of, handed, writes_in, most_writes}
use Rattle.writer.specs.Loading.{Push, refused, accepted, begin_refusal, begin_write, empty_push, push_refusal, finish_refusal, block_size, start_write, rest_write, mark_write}
use Rattle.writer.specs.Calls.{Handed, handed_writes, reply_for, places_in, Outcome, Replied, reply_says, reply_by, outcome, writes, called, called_says, blank, empty_of, begin_of, taken_of, state_in, next_for}
use Rattle.writer.specs.Calls.{push_bytes, after_block, push_of, header_of, after_finish, finish_of, answer_of, Good}
use Rattle.writer.specs.declared.Looping.{Looping}
use Rattle.writer.specs.declared.HpsWriter.{HpsWriter}
use Rattle.writer.specs.declared.Called.{Called}
use Rattle.writer.proofs.DueLaws.{passed, passed_finish}
use Rattle.writer.proofs.WriteLaws.{bytes_length, places_are}
use Rattle.cut_write_log.specs.WriteLog.{Logging, logging, log_all, sizes, logged_writes, empty_log, Listed}
use Rattle.cut_write_log.specs.declared.WriteLog.{WriteLog}
use Rattle.cut_write_log.proofs.WriteLogLaws.{Room, Logs, none-listed, logs_long, logs_all}
use Rattle.cut_logged_calls.specs.LoggedCalls.{lent_of, log_after, made_by, made_says, Tally, log_size}
use Rattle.layout.specs.Refusals.{block_limit, key_limit}
use Rattle.layout.specs.Records.{file_header_size}
use Rattle.writer.specs.Push.{advanced}

-- The writes that are handed out lie in the lent buffer.
sizes_are : (ws : List Write) → sizes (map place_of ws) ≡ length (handed ws)
unfolding sizes sum handed
sizes_are [] = refl
sizes_are (w ∷ ws) = omega (arith, sizes_are ws, length-append w.bytes (handed ws))

-- No write more.
none-room : {j : WriteLog} {logged lent : List ℕ} → Listed j logged → Room j logged lent []
unfolding sizes sum
none-room l = record { few = omega (arith, l.few); handed = omega arith; space = omega (arith, l.inside) }

-- These writes, where there is room for so many.
some-room : {j : WriteLog} {logged : List ℕ} (lent : List ℕ) (ws : List Write) → j.count + length ws ≤ most_writes → j.total + length (handed ws) ≤ length logged
    → Room j logged (handed ws ++ drop (length (handed ws)) lent) (map place_of ws)
some-room lent ws few space =
    let n = sizes_are ws in
    record {
      few = omega (arith, length-map ws place_of);
      handed = omega (arith, length-append (handed ws) (drop (length (handed ws)) lent));
      space = omega arith;
    }

-- ---- Any call

places_length : (h : Handed) → (length (places_in (reply_for h)) ≡ length (handed_writes h)) × (sizes (places_in (reply_for h)) ≡ length (handed (handed_writes h)))
places_length h = let e = places_are h in (rw e (length-map (handed_writes h) place_of), rw e (sizes_are (handed_writes h)))

module _ (n : ℕ) (w : HpsWriter) (lent : List ℕ) (next : HpsWriter) (h : Handed) (j : WriteLog) (logged : List ℕ) where
  abbrev ws : List Write
  ws = handed_writes h

  -- What an accepted call must leave room for.
  abbrev Fits : Type 0
  Fits = eqb n 0 ≡ true → (j.count + length ws ≤ most_writes) × (j.total + length (handed ws) ≤ length logged)

  room_for : Listed j logged → Fits → Room j logged (outcome n w lent next h).lent (places_in (outcome n w lent next h).reply)
  room_for l f =
      by_cases (eqb n 0) (λ q. rw (q, places_are h) (some-room lent ws (f q).0 (f q).1)) (λ q. rw q (none-room l))

  -- What it must leave counted.
  abbrev Counts : Type 0
  Counts = eqb n 0 ≡ true
      → (next.setup.slot ≤ key_limit)
      × (next.finished ≡ false → (j.count + length ws ≡ suc next.stream.blocks) × (j.total + length (handed ws) + 127 ≡ next.stream.offset))

  tally_after : {q : WriteLog} {after : List ℕ} → Tally j w logged → Counts → Logs j logged (outcome n w lent next h).lent (places_in (outcome n w lent next h).reply) q after
      → Tally q (outcome n w lent next h).writer after
  unfolding sizes sum
  tally_after {q} {after} t c g =
      let long = logs_long g in
      let room = t.room in
      let many = places_length h in
      by_cases (eqb n 0)
      (λ e.
      let k : q.count ≡ j.count + length (places_in (reply_for h)) = rw e at g.count in
      let b : q.total ≡ j.total + sizes (places_in (reply_for h)) = rw e at g.total in
      rw e (record {
        listed = g.listed;
        room = omega arith;
        small = (c e).0;
        many = λ f. omega (arith, k, ((c e).1 f).0, many.0);
        bytes = λ f. omega (arith, b, ((c e).1 f).1, many.1);
      }))
      (λ e.
      let k : q.count ≡ j.count + 0 = rw e at g.count in
      let b : q.total ≡ j.total + 0 = rw e at g.total in
      rw e (record {
        listed = g.listed;
        room = omega arith;
        small = t.small;
        many = λ f. omega (arith, k, t.many f);
        bytes = λ f. omega (arith, b, t.bytes f);
      }))

-- What is logged of a call that finds room.
pub record Tallied (o : Outcome) (g after : Logging) : Type 0 where
  pub tally : Tally after.log o.writer after.bytes
  pub is : logged_writes after.log after.bytes ≡ logged_writes g.log g.bytes ++ writes o
  pub put : after.bytes ≡ put_at g.bytes g.log.total (handed (writes o))

module _ (n : ℕ) (w : HpsWriter) (lent : List ℕ) (next : HpsWriter) (h : Handed) (g : Logging) where
  tallied : Tally g.log w g.bytes → Fits n w lent next h g.log g.bytes → Counts n w lent next h g.log g.bytes
      → Tallied (outcome n w lent next h) g (log_after (outcome n w lent next h) g)
  unfolding log_after writes
  tallied t f c =
      let o = outcome n w lent next h in
      let k = logs_all (places_in o.reply) g o.lent t.listed (room_for n w lent next h g.log g.bytes t.listed f) in
      record { tally = tally_after n w lent next h g.log g.bytes t c k; is = k.is; put = k.put }

-- An answer whose refusals are told by their numbers is the reply.
pub by_number : (a : Result Writes Refusal) → reply_by number_of a ≡ reply_says a
by_number (Err r) = refl
by_number (Ok Writes.None) = refl
by_number (Ok (Writes.One p)) = refl
by_number (Ok (Writes.Three n p q r)) = refl

-- What a call leaves, by its outcome.
pub call_made : (o : Outcome) (g : Logging) (call : Called) {l : List ℕ} {q : WriteLog} {after : List ℕ} → (called_says call ≡ called o) × ((l ≡ o.lent) × Good call.writer)
    → (q ≡ (log_all g l 0 (places_in (reply_says call.answer))).log) × (after ≡ (log_all g l 0 (places_in (reply_says call.answer))).bytes)
    → (made_says (record { writer = call.writer; answer = call.answer; log = q }) ≡ made_by o g) × ((after ≡ (log_after o g).bytes) × Good call.writer)
unfolding log_after
call_made o g call b h =
    let r : reply_says call.answer ≡ o.reply = ap (λ (x : Replied). x.reply) b.0 in
    let w : call.writer ≡ o.writer = ap (λ (x : Replied). x.writer) b.0 in
    (rw (h.0, b.1.0, r, w), (h.1 ∙ rw (r, b.1.0), b.1.1))

-- The same where the refusals' numbers are told by a function.
pub call_made_by : (o : Outcome) (g : Logging) (call : Called) {l : List ℕ} {q : WriteLog} {after : List ℕ} → (called_says call ≡ called o) × ((l ≡ o.lent) × Good call.writer)
    → (q ≡ (log_all g l 0 (places_in (reply_by number_of call.answer))).log) × (after ≡ (log_all g l 0 (places_in (reply_by number_of call.answer))).bytes)
    → (made_says (record { writer = call.writer; answer = call.answer; log = q }) ≡ made_by o g) × ((after ≡ (log_after o g).bytes) × Good call.writer)
call_made_by o g call b h = call_made o g call b (rw (by_number call.answer) at h)

-- ---- Push

one-handed : (at : ℕ) (bs : List ℕ) → length (handed (write at bs ∷ [])) ≡ length bs
unfolding handed
one-handed at bs = omega (arith, length-append bs [])

module _ (w : HpsWriter) (p : Push) (lent : List ℕ) (l : Logging) (g : Good w) (t : Tally l.log w l.bytes) where
  n : ℕ
  n = push_refusal (state_in w) (taken_of w p) p (length lent)

  block : Write
  block = write w.stream.offset (push_bytes w p)

  size : length (handed (block ∷ [])) ≡ block_size (taken_of w p) p
  unfolding block push_bytes
  size = one-handed w.stream.offset (push_bytes w p) ∙ bytes_length (next_for w p) w.stream.base w.stream.id (taken_of w p) p

  -- No block is accepted after the last one, so none after a finish.
  unfinished : empty_push p ≡ false → eqb n 0 ≡ true → w.finished ≡ false
  unfolding n
  unfinished e q =
      let f = passed _ _ p _ e (eqb-true _ 0 q) in
      by_cases w.finished (λ d. apart (sym (g.done d) ∙ f.no26)) (λ d. d)

  -- an empty push hands out nothing
  nothing-fits : Fits n w lent w Handed.none l.log l.bytes
  unfolding handed
  nothing-fits q = (omega (arith, t.listed.few), omega (arith, t.listed.inside))

  nothing_counts : Counts n w lent w Handed.none l.log l.bytes
  unfolding handed
  nothing_counts q = (t.small, λ u. (omega (arith, t.many u), omega (arith, t.bytes u)))

  push_fits : empty_push p ≡ false → Fits n w lent (after_block w p) (Handed.one block) l.log l.bytes
  unfolding n block
  push_fits e q =
      let f = passed _ _ p _ e (eqb-true _ 0 q) in
      let fit = ltb-false w.setup.slot (w.stream.offset + block_size (taken_of w p) p) f.no24 in
      let many = leb-false block_limit w.stream.blocks f.no25 in
      let u = unfinished e q in
      (omega (arith, t.many u), omega (arith, t.bytes u, t.small, t.room, size))

  push_counts : Counts n w lent (after_block w p) (Handed.one block) l.log l.bytes
  unfolding after_block advanced block
  push_counts q = (t.small, λ u. (omega (arith, t.many u), omega (arith, t.bytes u, size)))

  pub push_tallied : Tallied (push_of w p lent) l (log_after (push_of w p lent) l)
  unfolding push_of n block
  push_tallied =
      by_cases (empty_push p)
      (λ e. rw e (tallied n w lent w Handed.none l t nothing-fits nothing_counts))
      (λ e. rw e (tallied n w lent (after_block w p) (Handed.one block) l t (push_fits e) push_counts))

-- ---- Finish

module _ (w : HpsWriter) (lent : List ℕ) (l : Logging) (g : Good w) (t : Tally l.log w l.bytes) where
  number : ℕ
  number = finish_refusal w.finished w.stream.blocks w.stream.last (length lent)

  header : Handed
  header = let h = header_of w in Handed.three w.stream.offset (start_write h) (rest_write h) (mark_write h)

  header_size : length (handed (handed_writes header)) ≤ file_header_size
  unfolding handed header
  header_size =
      let h = header_of w in
      let a = take 15 h in
      let b = take 112 (drop 16 h) in
      let c = take 1 (drop 15 h) in
      omega (arith, length-append a (b ++ (c ++ [])), length-append b (c ++ []), length-append c [], length-take 15 h, length-take 112 (drop 16 h), length-take 1 (drop 15 h))

  finish_fits : Fits number w lent (after_finish w) header l.log l.bytes
  unfolding number header
  finish_fits q =
      let u = (passed_finish _ _ _ _ (eqb-true _ 0 q)).no26 in
      (omega (arith, t.many u, g.many), omega (arith, t.bytes u, t.small, t.room, g.room, header_size))

  finish_counts : Counts number w lent (after_finish w) header l.log l.bytes
  unfolding after_finish
  finish_counts q = (t.small, λ u. apart u)

  pub finish_tallied : Tallied (finish_of w lent) l (log_after (finish_of w lent) l)
  unfolding finish_of number header
  finish_tallied = tallied number w lent (after_finish w) header l t finish_fits finish_counts

-- ---- Begin

module _ (slot ch : ℕ) (mode : Looping) (lent logged : List ℕ) where
  abbrev begun : Outcome
  begun = begin_of slot ch mode lent

  abbrev first : Logging
  first = log_after begun (logging empty_log logged)

  begin_logs : 1 ≤ length logged → Logs empty_log logged begun.lent (places_in begun.reply) first.log first.bytes
  unfolding begin_of handed log_after
  begin_logs room =
      logs_all (places_in begun.reply) (logging empty_log logged) begun.lent (none-listed logged)
      (room_for (begin_refusal slot ch (length lent)) blank lent (empty_of slot ch mode) (Handed.one begin_write) empty_log logged (none-listed logged) (λ q. (omega arith, omega arith)))

  pub begin-is : 1 ≤ length logged → logged_writes first.log first.bytes ≡ writes begun
  unfolding writes logged_writes writes_in
  begin-is room = (begin_logs room).is

  tally_of : {q : WriteLog} {after : List ℕ} → log_size ≤ length logged → slot ≤ key_limit → answer_of begun ≡ accepted 0
      → Logs empty_log logged begun.lent (places_in begun.reply) q after → Tally q begun.writer after
  unfolding begin_of sizes sum
  tally_of {q} room small a n =
      by_cases (eqb (begin_refusal slot ch (length lent)) 0)
      (λ z.
      let c : q.count ≡ 0 + 1 = rw z at n.count in
      let b : q.total ≡ 0 + (1 + 0) = rw z at n.total in
      rw z (record {
        listed = n.listed;
        room = omega (arith, logs_long n);
        small = small;
        many = λ u. omega arith;
        bytes = λ u. omega arith;
      }))
      (λ z. let x : refused (begin_refusal slot ch (length lent)) ≡ accepted 0 = rw z at a in let y : ◌≡◌ {A = ℕ} 0 1 = cc in absurd (omega arith))

  -- Accepted for a slot of at most 65,536 bytes, it leaves room for all that may come.
  pub begin_tally : log_size ≤ length logged → slot ≤ key_limit → answer_of begun ≡ accepted 0 → Tally first.log begun.writer first.bytes
  begin_tally room small a = tally_of room small a (begin_logs (omega arith))

-- ---- The lent buffer

take_zeros : (k m : ℕ) → k ≤ m → take {A = ℕ} k (replicate m 0) ≡ replicate k 0
take_zeros zero m h = refl
take_zeros (suc k) zero h = absurd (omega arith)
take_zeros (suc k) (suc m) h = ap (λ (bs : List ℕ). 0 ∷ bs) (take_zeros k m (omega arith))

module _ (size : ℕ) {r : ℕ} {z : List ℕ} (zeros : z ≡ replicate key_limit 0) (n : r ≡ min size key_limit) where
  pub lent_is : take r z ≡ lent_of size
  lent_is = rw zeros (take_zeros r key_limit (omega arith) ∙ rw n)

  pub lent_length : r ≡ length (take r z)
  lent_length = rw lent_is (n ∙ sym (length-replicate (min size key_limit) 0))
