-- Empty pushes, one and in a list.
use Prim.Native.Nat.{ℕ}
use mathlib.Core.Path.{◌≡◌, refl, ap, sym, subst, ◌∙◌}
use mathlib.Core.Bool.{Bool, true, false}
use mathlib.Core.List.{List, [], ◌∷◌, ◌++◌}
use lib.Dec.{eqb}
use lib.ListN.{length}
use borrow.Author.Tests.{lt-ltb, eq-eqb}
use Rattle.layout.specs.Lists.{filter, any}
use Rattle.layout.specs.Refusals.{Due, due, first_due}
use Rattle.layout.proofs.Cases.{by_cases, apart}
use Rattle.writer.specs.WritesAndCuttingRule.{Write, handed, CutLeaves}
use Rattle.writer.specs.Loading.{Push, Call, Answer, length_of, empty_push, state_due, blocks_due, rate_due, length_due, early_due, PushState, push_order, push_refusal}
use Rattle.writer.specs.Calls.{Handed, writes, taken_of, state_in, push_of, answer_of}
use Rattle.writer.specs.declared.Looping.TheVariants.{Auto}
use Rattle.writer.specs.declared.Cue.{Cue}
use Rattle.writer.specs.declared.HpsWriter.{HpsWriter}
use Rattle.writer.proofs.WriteLaws.{writes_are}
use Rattle.power_cut.specs.LoadingBook.{Book, begun, state_of, takes, book_answer, book_after, book_answers, book_run}
use Rattle.power_cut.specs.PowerCut.{step, record_after, answers_of, writes_of}
use Rattle.power_cut.specs.Consequences.{begun_of}
use Rattle.power_cut.specs.EmptyPushes.{empty_due, LeavesAll, BookStays, EmptyPushes, NeverPast10, pushes_nothing, others, of_others, AsIfAbsent, EmptyPushesAbsent, CutAsIfAbsent}

-- ---- One empty push

-- 26 and 29 alone can be due
due-is : (t : PushState) (cs : List Cue) (p : Push) (lent : ℕ) → empty_push p ≡ true → push_refusal t cs p lent ≡ empty_due t.last t.channels p.channels
unfolding push_order state_due first_due
due-is t cs p lent e = rw e

leaves_all : (p : Push) (lent : List ℕ) → empty_push p ≡ true → (w : HpsWriter) → LeavesAll w p lent
unfolding push_of handed
leaves_all p lent e w =
    let d = due-is (state_in w) (taken_of w p) p (length lent) e in
    let n = empty_due w.stream.last w.setup.channels p.channels in
    let ws = writes_are n w lent w Handed.none in
    by_cases (eqb n 0)
    (λ q. record { answer = rw (d, e, q); writes = rw (d, e) (ws ∙ rw q); buffer = rw (d, e, q); writer = rw (d, e, q) })
    (λ q. record { answer = rw (d, e, q); writes = rw (d, e) (ws ∙ rw q); buffer = rw (d, e, q); writer = rw (d, e, q) })

book_stays : (p : Push) (lent : List ℕ) → empty_push p ≡ true → (b : Book) → BookStays b p lent
book_stays p lent e b =
    let d = due-is (state_of b) (takes b p) p (length lent) e in
    by_cases (eqb (empty_due (state_of b).last b.channels p.channels) 0)
    (λ q. record { answer = rw d; book = rw (d, e, q) })
    (λ q. record { answer = rw d; book = rw (d, e, q) })

pub empty_pushes : EmptyPushes
unfolding EmptyPushes
empty_pushes p lent e = (leaves_all p lent e, book_stays p lent e)

-- ---- Length 0 or 1 otherwise

-- The first number due is one of an order's, down to a refusal that is due.
one_of : (n : ℕ) (t : Bool) (ds : List Due) (ns : List ℕ) → any (eqb (first_due ds)) ns ≡ true → any (eqb (first_due (due n t ∷ ds))) (n ∷ ns) ≡ true
unfolding any first_due
one_of n true ds ns h = rw (eq-eqb n n refl)
one_of n false ds ns h = by_cases (eqb (first_due ds) n) (λ q. rw q) (λ q. rw q h)

this_one : (n : ℕ) (t : Bool) (ds : List Due) → t ≡ true → any (eqb (first_due (due n t ∷ ds))) (n ∷ []) ≡ true
unfolding any first_due
this_one n t ds h = rw (h, eq-eqb n n refl)

pub never_past_10 : NeverPast10
unfolding NeverPast10 push_order state_due early_due blocks_due rate_due length_due
never_past_10 t cs p lent e h =
    one_of 26 _ _ _
    (one_of 29 _ _ _
    (rw e (one_of 25 _ _ _ (one_of 15 _ _ _ (one_of 22 _ _ _ (one_of 9 _ _ _ (one_of 12 _ _ _ (this_one 10 _ _ (lt-ltb (length_of p) 2 h)))))))))

-- ---- Lists of calls

record Nothing (w : HpsWriter) (b : Book) (c : Call) : Type 0 where
  writer : (step w c).writer ≡ w
  writes : writes (step w c) ≡ []
  book : book_after b c ≡ b

nothing : (w : HpsWriter) (b : Book) (c : Call) → pushes_nothing c ≡ true → Nothing w b c
nothing w b (Call.cue c) e = apart (sym e)
nothing w b (Call.push p lent) e =
    let l = leaves_all p lent e w in
    record { writer = l.writer; writes = l.writes; book = (book_stays p lent e b).book }
nothing w b (Call.finish lent) e = apart (sym e)

absent : (w : HpsWriter) (b : Book) (cs : List Call) → AsIfAbsent w b cs
unfolding record_after writes_of answers_of book_run book_answers others filter of_others
absent w b [] = record { writer = refl; writes = refl; answers = refl; book = refl; book_answers = refl }
absent w b (c ∷ cs) =
    by_cases (pushes_nothing c)
    (λ q.
    let n = nothing w b c q in
    let r = absent w b cs in
    record {
      writer = rw (q, n.writer) r.writer;
      writes = rw (q, n.writer, n.writes) r.writes;
      answers = rw (q, n.writer) r.answers;
      book = rw (q, n.book) r.book;
      book_answers = rw (q, n.book) r.book_answers;
    })
    (λ q.
    let r = absent (step w c).writer (book_after b c) cs in
    record {
      writer = rw q r.writer;
      writes = rw q (ap (λ (ws : List Write). writes (step w c) ++ ws) r.writes);
      answers = rw q (ap (λ (xs : List Answer). answer_of (step w c) ∷ xs) r.answers);
      book = rw q r.book;
      book_answers = rw q (ap (λ (xs : List Answer). book_answer b c ∷ xs) r.book_answers);
    })

pub empty_pushes_absent : EmptyPushesAbsent
unfolding EmptyPushesAbsent
empty_pushes_absent w b cs = absent w b cs

pub cut_as_if_absent : CutAsIfAbsent
unfolding CutAsIfAbsent
cut_as_if_absent l taken slot =
    let o = begun_of l in
    let e : writes_of o.writer l.calls ≡ writes_of o.writer (others l.calls) = (absent o.writer (begun 0 0 Auto) l.calls).writes in
    (λ c. subst (λ (ws : List Write). CutLeaves l.earlier (writes o ++ ws) taken slot) e c, λ c. subst (λ (ws : List Write). CutLeaves l.earlier (writes o ++ ws) taken slot) (sym e) c)
