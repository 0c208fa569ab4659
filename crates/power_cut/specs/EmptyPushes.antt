-- A push of no addresses (document 02, Card 2): what it does to record and book, and that a list of calls does the same without its empty pushes.
use Rattle.std.specs.Prelude.{ℕ, ◌<◌, ◌≡◌, Bool, true, false, not, List, [], ◌∷◌, eqb}
use Rattle.layout.specs.Choice.{pick}
use Rattle.layout.specs.Lists.{filter, any}
use Rattle.layout.specs.Refusals.{first_due}
use Rattle.writer.specs.WritesAndCuttingRule.{CutLeaves}
use Rattle.writer.specs.Loading.{Push, Call, Answer, answer_by, length_of, state_due, empty_push, PushState, push_refusal}
use Rattle.writer.specs.Calls.{writes, push_of, answer_of}
use Rattle.writer.specs.declared.Cue.{Cue}
use Rattle.writer.specs.declared.HpsWriter.{HpsWriter}
use Rattle.power_cut.specs.LoadingBook.{Book, state_of, book_answer, book_after, book_answers, book_run}
use Rattle.power_cut.specs.PowerCut.{record_after, answers_of, writes_of, all_writes}
use Rattle.power_cut.specs.Consequences.{WholeList, begun_of, CutOf}

-- ---- One empty push

-- "is now accepted .. The test comes right after 29, so rates and coefficients aren't looked at.": 26 and 29 alone can be due
abbrev pub empty_due : (last : Bool) (own channels : ℕ) → ℕ
empty_due last own ch = first_due (state_due last own ch)

-- "it hands out no write and leaves the record alone", and the lent buffer
pub record LeavesAll (w : HpsWriter) (p : Push) (lent : List ℕ) : Type 0 where
  pub answer : answer_of (push_of w p lent) ≡ answer_by (empty_due w.stream.last w.setup.channels p.channels) 0
  pub writes : writes (push_of w p lent) ≡ []
  pub buffer : (push_of w p lent).lent ≡ lent
  pub writer : (push_of w p lent).writer ≡ w

-- "the loading book accepts them and stays as it is"
pub record BookStays (b : Book) (p : Push) (lent : List ℕ) : Type 0 where
  pub answer : book_answer b (Call.push p lent) ≡ answer_by (empty_due (state_of b).last b.channels p.channels) 0
  pub book : book_after b (Call.push p lent) ≡ b

-- So does every empty push, of any rates and coefficients, on any record and in any book, whatever is lent.
unfoldable pub EmptyPushes : Type 0
EmptyPushes = (p : Push) (lent : List ℕ) → empty_push p ≡ true → ((w : HpsWriter) → LeavesAll w p lent) × ((b : Book) → BookStays b p lent)

-- "A push of length 0 with data or with the last mark, and one of length 1, go through the old order and never get past its 10.": whatever the state, the
-- cues that the block would take and the lent buffer
unfoldable pub NeverPast10 : Type 0
NeverPast10 =
    (t : PushState) (cs : List Cue) (p : Push) (lent : ℕ) → empty_push p ≡ false → length_of p < 2
    → any (eqb (push_refusal t cs p lent)) (26 ∷ 29 ∷ 25 ∷ 15 ∷ 22 ∷ 9 ∷ 12 ∷ 10 ∷ []) ≡ true

-- ---- Lists of calls

-- Is it an empty push?
abbrev pub pushes_nothing : Call → Bool
pushes_nothing (Call.cue c) = false
pushes_nothing (Call.push p lent) = empty_push p
pushes_nothing (Call.finish lent) = false

-- The list without its empty pushes, refused ones too.
unfoldable pub others : List Call → List Call
others cs = filter (λ c. not (pushes_nothing c)) cs

-- Of the answers that a list of calls gets, those of the other calls.
unfoldable pub of_others : List Call → List Answer → List Answer
of_others [] xs = []
of_others (c ∷ cs) [] = []
of_others (c ∷ cs) (x ∷ xs) = pick (pushes_nothing c) (of_others cs xs) (x ∷ of_others cs xs)

-- Without them the list leads to the same record and the same book, hands out the same writes, and every other call gets the same answer.
pub record AsIfAbsent (w : HpsWriter) (b : Book) (calls : List Call) : Type 0 where
  pub writer : record_after w calls ≡ record_after w (others calls)
  pub writes : writes_of w calls ≡ writes_of w (others calls)
  pub answers : of_others calls (answers_of w calls) ≡ answers_of w (others calls)
  pub book : book_run b calls ≡ book_run b (others calls)
  pub book_answers : of_others calls (book_answers b calls) ≡ book_answers b (others calls)

-- So it is of every list, from any record and any book.
unfoldable pub EmptyPushesAbsent : Type 0
EmptyPushesAbsent = (w : HpsWriter) (b : Book) (calls : List Call) → AsIfAbsent w b calls

-- "and the cut slot opens as if they were absent": the cuts of a list leave the slots that its cuts leave without them
unfoldable pub CutAsIfAbsent : Type 0
CutAsIfAbsent =
    (l : WholeList) (taken : ℕ) (slot : List ℕ)
    → (let absent = CutLeaves l.earlier (all_writes (begun_of l) (others l.calls)) taken slot in (CutOf l taken slot → absent) × (absent → CutOf l taken slot))
