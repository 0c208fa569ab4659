-- A call on a record in bytes, by what the call on the record gives.
use Prim.Native.Nat.{ℕ}
use Rattle.std.proofs.Common.{Result, Ok, Err}
use Rattle.std.specs.Result.{IsErrAnd}
use mathlib.Core.Path.{◌≡◌, refl, ap, sym, ◌∙◌}
use mathlib.Core.List.{List, []}
use lib.ListN.{length}
use borrow.Author.Tests.{ne_eqb, eqb-true, eqb-false}
use lib.Dec.{eqb, ltb}
use Rattle.c_record.specs.KeptSides.{where_kind}
use Rattle.layout.specs.declared.refusal.Refusal.{Refusal}
use Rattle.layout.proofs.Cases.{by_cases}
use Rattle.layout.proofs.FieldLaws.{passed_on}
use Rattle.writer.specs.Loading.{mode_of, begin_refusal, begin_write, cue_refusal, finish_refusal, start_write, rest_write, mark_write}
use Rattle.writer.specs.Calls.{Handed, reply_for, reply_says, Outcome, outcome, blank, empty_of, held, after_cue, header_of, after_finish, begin_of, cue_of, finish_of}
use Rattle.writer.specs.declared.Place.{Place}
use Rattle.writer.specs.declared.Writes.{Writes}
use Rattle.writer.specs.Calls.{Reply}
use Rattle.c_opened.specs.declared.failure.Failure.{Failure}
use Rattle.c_opened.specs.declared.failure.Failure.TheVariants.{NoKind}
use Rattle.c_opened.specs.Failures.{failure_number}
use Rattle.writer.specs.declared.Looping.{Looping}
use Rattle.writer.specs.declared.Cue.{Cue}
use Rattle.writer.specs.declared.HpsWriter.{HpsWriter}
use Rattle.c_record.specs.KeptWriter.{stream_in}
use Rattle.c_loading.specs.KeptLoading.{call_in, kept_says, numbered, place_in, on_kept, given_after}

-- where a `?` hands on a failure, all is left
pub left_err : {A : Type 0} (x : Result Place Failure) (e : Failure) (before given : A) → IsErrAnd x (λ y. y ≡ e) → (failure_number e ≡ 0 → ⊥) → before ≡ given_after (kept_says x).number before given
left_err x e before given h n = rw (passed_on x e h, ne_eqb (failure_number e) 0 n)

pub numbered_err : (x : Result Place Failure) (e : Failure) → IsErrAnd x (λ y. y ≡ e) → (failure_number e ≡ 0 → ⊥) → numbered x
numbered_err x e h n = rw (passed_on x e h) n

-- a mode that there is
pub mode_gives : (n : ℕ) (m : Looping) → Ok m ≡ where_kind n (mode_of n) → m ≡ mode_of n
mode_gives n m e =
    by_cases (ltb 2 n)
    (λ t. let z : Ok m ≡ Err NoKind = rw t at e in cc)
    (λ t. let z : Ok m ≡ Ok (mode_of n) = rw t at e in cc)

-- what a reply's place says is what the reply comes to
pub says_in : (a : Result Writes Refusal) → kept_says (place_in a) ≡ call_in (reply_says a)
says_in (Err r) = refl
says_in (Ok Writes.None) = refl
says_in (Ok (Writes.One p)) = refl
says_in (Ok (Writes.Three n p q r)) = refl

module _ (kept : List ℕ) (o : Outcome) where
  pub some_says : ((stream_in kept).setup.slot ≡ 0 → ⊥) → (x : Result Place Failure) (a : Result Writes Refusal) → x ≡ place_in a → reply_says a ≡ o.reply → kept_says x ≡ on_kept kept o
  some_says h x a e q = rw (ne_eqb (stream_in kept).setup.slot 0 h) (ap kept_says e ∙ says_in a ∙ ap call_in q)

-- ---- An outcome is refused with the number due, or accepted where none is

-- an answer that gives no place is a refusal, and one that gives a place is none
err_reply : (a : Result Writes Refusal) (e : Failure) → Err e ≡ place_in a → reply_says a ≡ Reply.Refused (failure_number e)
err_reply (Err r) e z = let y : e ≡ Failure.Refused r = cc in rw y
err_reply (Ok Writes.None) e z = cc
err_reply (Ok (Writes.One p)) e z = cc
err_reply (Ok (Writes.Three n p q r)) e z = cc

ok_reply : (a : Result Writes Refusal) (p : Place) (n : ℕ) → Ok p ≡ place_in a → reply_says a ≡ Reply.Refused n → ⊥
ok_reply (Err r) p n z q = cc
ok_reply (Ok Writes.None) p n z q = cc
ok_reply (Ok (Writes.One x)) p n z q = cc
ok_reply (Ok (Writes.Three m x y r)) p n z q = cc

module _ (n : ℕ) (w : HpsWriter) (lent : List ℕ) (next : HpsWriter) (h : Handed) where
  handed-reply : (x : Handed) (m : ℕ) → reply_for x ≡ Reply.Refused m → ⊥
  handed-reply Handed.none m z = cc
  handed-reply (Handed.one x) m z = cc
  handed-reply (Handed.three k x y r) m z = cc

  err_due : (a : Result Writes Refusal) (e : Failure) → Err e ≡ place_in a → reply_says a ≡ (outcome n w lent next h).reply
      → (failure_number e ≡ 0 → ⊥) × ((outcome n w lent next h).lent ≡ lent)
  err_due a e z r =
      let m = failure_number e in
      let s : (outcome n w lent next h).reply ≡ Reply.Refused m = sym r ∙ err_reply a e z in
      by_cases (eqb n 0)
      (λ q. absurd (handed-reply h m (rw q at s)))
      (λ q.
      let x : Reply.Refused n ≡ Reply.Refused m = rw q at s in
      let y : n ≡ m = cc in
      (λ k. eqb-false n 0 q (y ∙ k), rw q))

  ok_due : (a : Result Writes Refusal) (p : Place) → Ok p ≡ place_in a → reply_says a ≡ (outcome n w lent next h).reply → n ≡ 0
  ok_due a p z r =
      by_cases (eqb n 0) (λ q. eqb-true n 0 q)
      (λ q. let s : reply_says a ≡ Reply.Refused n = rw q at r in absurd (ok_reply a p n z s))

module _ (n ch : ℕ) (mode : Looping) (lent : List ℕ) where
  pub begin_err : (a : Result Writes Refusal) (e : Failure) → Err e ≡ place_in a → reply_says a ≡ (begin_of n ch mode lent).reply → (failure_number e ≡ 0 → ⊥) × ((begin_of n ch mode lent).lent ≡ lent)
  unfolding begin_of
  begin_err = err_due (begin_refusal n ch (length lent)) blank lent (empty_of n ch mode) (Handed.one begin_write)

  pub begin_ok : (a : Result Writes Refusal) (p : Place) → Ok p ≡ place_in a → reply_says a ≡ (begin_of n ch mode lent).reply → begin_refusal n ch (length lent) ≡ 0
  unfolding begin_of
  begin_ok = ok_due (begin_refusal n ch (length lent)) blank lent (empty_of n ch mode) (Handed.one begin_write)

pub cue_err : (w : HpsWriter) (c : Cue) (a : Result Writes Refusal) (e : Failure) → Err e ≡ place_in a → reply_says a ≡ (cue_of w c).reply → failure_number e ≡ 0 → ⊥
unfolding cue_of
cue_err w c a e z r = (err_due (cue_refusal w.stream.blocks (held w) c) w [] (after_cue w c) Handed.none a e z r).0

module _ (w : HpsWriter) (lent : List ℕ) where
  abbrev handed : Handed
  handed = let h = header_of w in Handed.three w.stream.offset (start_write h) (rest_write h) (mark_write h)

  pub finish_err : (a : Result Writes Refusal) (e : Failure) → Err e ≡ place_in a → reply_says a ≡ (finish_of w lent).reply → (failure_number e ≡ 0 → ⊥) × ((finish_of w lent).lent ≡ lent)
  unfolding finish_of
  finish_err = err_due (finish_refusal w.finished w.stream.blocks w.stream.last (length lent)) w lent (after_finish w) handed

  pub finish_ok : (a : Result Writes Refusal) (p : Place) → Ok p ≡ place_in a → reply_says a ≡ (finish_of w lent).reply → finish_refusal w.finished w.stream.blocks w.stream.last (length lent) ≡ 0
  unfolding finish_of
  finish_ok = ok_due (finish_refusal w.finished w.stream.blocks w.stream.last (length lent)) w lent (after_finish w) handed
