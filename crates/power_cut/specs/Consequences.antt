-- What a user would say of a loading, each taken from the statements at their stated types (PowerCut.antt): a statement that says less, or asks more, does
-- not give them.
use Rattle.std.specs.Prelude.{ℕ, ◌+◌, ◌<◌, ◌≤◌, ◌≡◌, true, false, List, ◌∷◌, ◌++◌, map, ◌⊎◌, length, drop, get_or}
use Rattle.layout.specs.Lists.{All}
use Rattle.layout.specs.Types.{Slice}
use Rattle.layout.specs.declared.DspFormat.TheVariants.{Adpcm}
use Rattle.reader.specs.OpeningAndReading.{Opened, opened, Readable, BlockAnswer, gave, addresses}
use Rattle.reader.specs.CuesReadBack.{CueAnswer}
use Rattle.reader.specs.declared.HpsReader.{HpsReader}
use Rattle.reader.specs.declared.CueIterator.{CueIterator}
use Rattle.writer.specs.WritesAndCuttingRule.{Write, CutLeaves}
use Rattle.writer.specs.Loading.{Call, Answer, accepted, refused, length_of, points}
use Rattle.writer.specs.Typed.{Typed}
use Rattle.writer.specs.Calls.{Outcome, Good, answer_of}
use Rattle.writer.specs.declared.Looping.{Looping}
use Rattle.writer.specs.declared.HpsWriter.{HpsWriter}
use Rattle.power_cut.specs.LoadingBook.{Block, Book, begun, lengths_of, end_of_blocks, first_left, first_side, side_of, data_at, book_answer, book_run, opening_of, cues_of}
use Rattle.power_cut.specs.FinishedFile.{file_bytes}
use Rattle.power_cut.specs.PowerCut.{begin, opens, reads, remains, first, next, estimates, records_of, answers_of, all_writes, nth_cue}
use Rattle.layout.specs.Refusals.{slot_limit, slot_least}

-- ---- The whole list

-- A begin that was accepted on the length of this very slot, and the calls after it: all arguments are values of their types, and no more is asked of them.
pub record WholeList : Type 0 where
  pub earlier : List ℕ
  pub slice : Slice earlier
  pub channels : ℕ
  pub fits : channels < 18446744073709551616
  pub mode : Looping
  pub lent : List ℕ
  pub buffer : Slice lent
  pub begins : answer_of (begin (length earlier) channels mode lent) ≡ accepted 0
  pub calls : List Call
  pub typed : All Typed calls

-- What its begin leaves.
abbrev pub begun_of : WholeList → Outcome
begun_of l = begin (length l.earlier) l.channels l.mode l.lent

-- The book after the first of its calls.
abbrev pub book_up_to : WholeList → (first : List Call) → Book
book_up_to l cs = book_run (begun (length l.earlier) l.channels l.mode) cs

-- The book after all of them.
abbrev pub book_of : WholeList → Book
book_of l = book_up_to l l.calls

-- Its writes, begin's first.
abbrev pub list_writes : WholeList → List Write
list_writes l = all_writes (begun_of l) l.calls

-- The power fails when so many of them have taken, and the slot is this.
abbrev pub CutOf : WholeList → (taken : ℕ) → (slot : List ℕ) → Type 0
CutOf l taken slot = CutLeaves l.earlier (list_writes l) taken slot

-- ---- At a cut

-- No cut changes the slot's length.
unfoldable pub SameLength : Type 0
SameLength = (l : WholeList) (taken : ℕ) (slot : List ℕ) → CutOf l taken slot → length slot ≡ length l.earlier

-- Every reading call answers on one slot as on the other: opening, and on any record and from any cursor block read, addresses remaining and cue call.
pub record AnswersAs (other slot : List ℕ) : Type 0 where
  pub opening : opens slot ≡ opens other
  pub block : (r : HpsReader) (channel position : ℕ) → reads slot r channel position ≡ reads other r channel position
  pub remaining : (r : HpsReader) (position : ℕ) → remains slot r position ≡ remains other r position
  pub cue : (r : HpsReader) (c : CueIterator) → next slot r c ≡ next other r c

-- Until begin's byte has taken, every reading call answers as before the loading.
unfoldable pub BeforeBegin : Type 0
BeforeBegin = (l : WholeList) (slot : List ℕ) → CutOf l 0 slot → AnswersAs l.earlier slot

-- Opening refuses with 2 or 3.
abbrev pub Refuses : (slot : List ℕ) → Type 0
Refuses slot = (opens slot ≡ Opened.refused 2) ⊎ (opens slot ≡ Opened.refused 3)

-- From begin's byte on a slot whose loading has not been finished does not open.
unfoldable pub NotFinished : Type 0
NotFinished = (l : WholeList) → (book_of l).finished ≡ false → (taken : ℕ) (slot : List ℕ) → 0 < taken → CutOf l taken slot → Refuses slot

-- From begin's byte on it does not open either while a write is still to come.
unfoldable pub WriteToCome : Type 0
WriteToCome = (l : WholeList) (taken : ℕ) (slot : List ℕ) → 0 < taken → taken < length (list_writes l) → CutOf l taken slot → Refuses slot

-- After any cut opening answers as before the loading, refuses with 2 or 3, or gives the finished stream's record: there is no fourth answer.
unfoldable pub NoOtherAnswer : Type 0
NoOtherAnswer =
    (l : WholeList) (taken : ℕ) (slot : List ℕ) → CutOf l taken slot
    → (opens slot ≡ opens l.earlier) ⊎ Refuses slot ⊎ (((book_of l).finished ≡ true) × (opens slot ≡ opened (opening_of (book_of l))))

-- ---- Every call

-- Begin with the most channels that its type holds is refused with 3, whatever the slot.
unfoldable pub MostChannels : Type 0
MostChannels =
    (earlier : List ℕ) → Slice earlier → (mode : Looping) (lent : List ℕ) → Slice lent
    → answer_of (begin (length earlier) 18446744073709551615 mode lent) ≡ refused 3

-- Begin is accepted on a slot of 192 to 16,777,216 bytes, in mono and stereo, with one lent byte or more.
unfoldable pub Begins : Type 0
Begins =
    (earlier : List ℕ) → Slice earlier → slot_least ≤ length earlier → length earlier ≤ slot_limit → (mode : Looping) (lent : List ℕ) → Slice lent → 1 ≤ length lent
    → (answer_of (begin (length earlier) 1 mode lent) ≡ accepted 0) × (answer_of (begin (length earlier) 2 mode lent) ≡ accepted 0)

-- Begin's record, of a refused one too, meets the premise of the calls.
unfoldable pub BegunGood : Type 0
BegunGood =
    (earlier : List ℕ) → Slice earlier → (channels : ℕ) → channels < 18446744073709551616 → (mode : Looping) (lent : List ℕ) → Slice lent
    → Good (begin (length earlier) channels mode lent).writer

-- So does the record after each call.
unfoldable pub EachGood : Type 0
EachGood =
    (l : WholeList) (i : ℕ) → i ≤ length l.calls → (none : HpsWriter) → Good (get_or (records_of (begun_of l).writer l.calls) i none)

-- The answers that the calls get, in order.
abbrev pub answers_to : WholeList → List Answer
answers_to l = answers_of (begun_of l).writer l.calls

-- Each call gets one answer.
unfoldable pub OneAnswerEach : Type 0
OneAnswerEach = (l : WholeList) → length (answers_to l) ≡ length l.calls

-- Each answer is the one that the book gives after the calls before it.
unfoldable pub EachAnswer : Type 0
EachAnswer =
    (l : WholeList) (before after : List Call) (c : Call) → l.calls ≡ before ++ (c ∷ after) → (none : Answer)
    → get_or (answers_to l) (length before) none ≡ book_answer (book_up_to l before) c

-- An accepted finish gives the last block's end.
unfoldable pub FinishedLength : Type 0
FinishedLength =
    (l : WholeList) (before after : List Call) (lent : List ℕ) → l.calls ≡ before ++ (Call.finish lent ∷ after) → (none : Answer)
    → (n : ℕ) → get_or (answers_to l) (length before) none ≡ accepted n → n ≡ end_of_blocks (book_up_to l before).blocks

-- ---- Once an accepted finish's last write has taken

-- Every write of a finished list has taken.
abbrev pub Finished : WholeList → (slot : List ℕ) → Type 0
Finished l slot = ((book_of l).finished ≡ true) × CutOf l (length (list_writes l)) slot

-- The record of an opening made then.
abbrev pub finished_record : WholeList → HpsReader
finished_record l = opening_of (book_of l)

-- Opening gives the book's record, and it meets the premise of the reading calls.
unfoldable pub FinishedOpens : Type 0
FinishedOpens = (l : WholeList) (slot : List ℕ) → Finished l slot → (opens slot ≡ opened (finished_record l)) × Readable (finished_record l)

-- Each block is read in each channel as it was pushed.
unfoldable pub EachBlockBack : Type 0
EachBlockBack =
    (l : WholeList) (slot : List ℕ) → Finished l slot
    → (let bs = (book_of l).blocks in
    (before after : List Block) (k : Block) → bs ≡ before ++ (k ∷ after) → (channel : ℕ) → channel < (book_of l).channels
    → reads slot (finished_record l) channel (length before)
    ≡ gave (first_left bs).rate Adpcm (first_side bs channel).coefficients (first_side bs channel).gain (length_of k.push) (side_of k.push channel).block.context
    (data_at k channel) (side_of k.push channel).bytes (length before + 1))

-- Past the last block it is the end; a channel that there is not gets 6 at every position.
unfoldable pub NoBlockBack : Type 0
NoBlockBack =
    (l : WholeList) (slot : List ℕ) → Finished l slot → (channel position : ℕ)
    → ((book_of l).channels ≤ channel → reads slot (finished_record l) channel position ≡ BlockAnswer.refused 6)
    × (channel < (book_of l).channels → length (book_of l).blocks ≤ position → reads slot (finished_record l) channel position ≡ BlockAnswer.ended)

-- From each position the addresses remaining are the sum of the lengths pushed from there on.
unfoldable pub EachRemaining : Type 0
EachRemaining =
    (l : WholeList) (slot : List ℕ) → Finished l slot → (position : ℕ)
    → remains slot (finished_record l) position ≡ addresses (lengths_of (drop position (book_of l).blocks))

-- The cue calls give each of the book's cues in its turn.
unfoldable pub EachCueBack : Type 0
EachCueBack =
    (l : WholeList) (slot : List ℕ) → Finished l slot → (before after : List CueAnswer) (a : CueAnswer) → cues_of (book_of l) ≡ before ++ (a ∷ after)
    → nth_cue slot (finished_record l) (first (finished_record l)) (length before) ≡ a

-- Then they give the end, as often as they are asked.
unfoldable pub CuesEnd : Type 0
CuesEnd =
    (l : WholeList) (slot : List ℕ) → Finished l slot → (n : ℕ) → length (cues_of (book_of l)) ≤ n
    → nth_cue slot (finished_record l) (first (finished_record l)) n ≡ CueAnswer.ended

-- ---- The file and the estimate

-- Each byte below the finished length is the file's, each beyond it the earlier one.
unfoldable pub EachByte : Type 0
EachByte =
    (l : WholeList) (slot : List ℕ) → Finished l slot
    → (let end = end_of_blocks (book_of l).blocks in
    (i : ℕ) → (i < end → get_or slot i 0 ≡ get_or (file_bytes (book_of l)) i 0) × (end ≤ i → get_or slot i 0 ≡ get_or l.earlier i 0))

-- A slot as long as the estimate holds the stream: the estimate of what was pushed is not refused, and no block ends beyond it.
unfoldable pub EstimateEnough : Type 0
EstimateEnough =
    (l : WholeList)
    → (let estimate = estimates l.channels (map (λ k. length_of k.push) (book_of l).blocks) (points (book_of l).cues) in
    ((n : ℕ) → estimate ≡ refused n → ⊥) × ((n : ℕ) → estimate ≡ accepted n → end_of_blocks (book_of l).blocks ≤ n))
