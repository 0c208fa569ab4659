-- The consequences, from the statements alone: nothing here looks behind them.
use Prim.Native.Nat.{ℕ, zero, suc, ◌+◌, ◌-◌, ◌<◌, ◌≤◌}
use mathlib.Core.Path.{◌≡◌, refl, ap, sym, ◌∙◌}
use mathlib.Core.Bool.{true}
use mathlib.Core.List.{List, [], ◌∷◌, ◌++◌}
use mathlib.Core.Logic.{inl, inr}
use native.Mathlib.Omega.{arith}
use lib.ListN.{length, drop, get_or, get_or-append}
use lib.Dec.{eqb, ltb}
use lib.Seq.{drop-append_seam, get_or-append_seam, get_or-append-add, get_or-drop}
use borrow.Author.Tests.{eqb-true, eqb-false, ltb-true, ltb-false, le-leb, lt-leb, le-ltb}
use Rattle.layout.specs.Lists.{All, more}
use Rattle.layout.specs.Refusals.{first_due, slot_limit, slot_least}
use Rattle.layout.proofs.Cases.{by_cases}
use Rattle.reader.specs.CuesReadBack.{CueAnswer}
use Rattle.writer.specs.Loading.{Call, Answer, accepted, refused, answer_by}
use Rattle.writer.specs.declared.HpsWriter.{HpsWriter}
use Rattle.power_cut.specs.LoadingBook.{Book, begun, end_of_blocks, number_due, book_answer, book_after, book_answers, book_run, block_of, remaining_of, cues_of}
use Rattle.power_cut.specs.FinishedFile.{file_bytes}
use Rattle.power_cut.specs.PowerCut.{opens, step, records_of, AfterCut, Run, ReadsAs, PowerCut, FinishedFile, EstimateBound}
use Rattle.power_cut.specs.Consequences.{WholeList, begun_of, book_up_to, book_of, list_writes, CutOf, answers_to, Finished, SameLength, BeforeBegin}
use Rattle.power_cut.specs.Consequences.{NotFinished, WriteToCome, NoOtherAnswer, MostChannels, Begins, BegunGood, EachGood, OneAnswerEach, EachAnswer}
use Rattle.power_cut.specs.Consequences.{FinishedLength, FinishedOpens, EachBlockBack, NoBlockBack, EachRemaining, EachCueBack, CuesEnd, EachByte}
use Rattle.power_cut.specs.Consequences.{EstimateEnough}
use Rattle.power_cut.proofs.CutLaws.{taken_few}

-- ---- Lists

all-at : {A : Type 0} {Q : A → Type 0} (xs : List A) (i : ℕ) (d : A) → i < length xs → All Q xs → Q (get_or xs i d)
all-at (x ∷ xs) zero d h (more q a) = q
all-at (x ∷ xs) (suc i) d h (more q a) = all-at xs i d (omega arith) a
all-at [] i d h a = absurd (omega arith)

past : {A : Type 0} (xs : List A) (n : ℕ) (d : A) → length xs ≤ n → get_or xs n d ≡ d
past [] n d h = refl
past (x ∷ xs) zero d h = absurd (omega arith)
past (x ∷ xs) (suc n) d h = past xs n d (omega arith)

past_drop : {A : Type 0} (xs : List A) (n : ℕ) → length xs ≤ n → drop n xs ≡ []
past_drop [] zero h = refl
past_drop [] (suc n) h = refl
past_drop (x ∷ xs) zero h = absurd (omega arith)
past_drop (x ∷ xs) (suc n) h = past_drop xs n (omega arith)

records_length : (w : HpsWriter) (cs : List Call) → length (records_of w cs) ≡ suc (length cs)
unfolding records_of
records_length w [] = refl
records_length w (c ∷ cs) = ap suc (records_length (step w c).writer cs)

answers-length : (b : Book) (cs : List Call) → length (book_answers b cs) ≡ length cs
unfolding book_answers
answers-length b [] = refl
answers-length b (c ∷ cs) = ap suc (answers-length (book_after b c) cs)

answer_at : (b : Book) (before after : List Call) (c : Call) (d : Answer) → get_or (book_answers b (before ++ (c ∷ after))) (length before) d ≡ book_answer (book_run b before) c
unfolding book_answers book_run
answer_at b [] after c d = refl
answer_at b (x ∷ xs) after c d = answer_at (book_after b x) xs after c d

apart-answers : {m n : ℕ} → accepted m ≡ refused n → ⊥
apart-answers e = let z : ◌≡◌ {A = ℕ} 0 1 = cc in omega arith

same-given : {m n : ℕ} → accepted m ≡ accepted n → m ≡ n
same-given e = cc

given : (number m n : ℕ) → answer_by number m ≡ accepted n → n ≡ m
given number m n e =
    by_cases (eqb number 0) (λ q. sym (same-given (rw q at e))) (λ q. absurd (apart-answers (sym (rw q at e))))

-- ---- From the power cut

module _ (theorem : PowerCut) where
  run : (l : WholeList) → Run l.earlier (begun (length l.earlier) l.channels l.mode) (begun_of l) l.calls
  unfolding PowerCut
  run l = (theorem l.earlier l.slice l.channels (omega (arith, l.fits)) l.mode l.lent l.buffer).2 l.begins l.calls l.typed

  at_cut : (l : WholeList) (taken : ℕ) (slot : List ℕ) → CutOf l taken slot → AfterCut l.earlier (book_of l) (list_writes l) taken slot
  at_cut l taken slot h = (run l).cut taken slot h

  reads_as : (l : WholeList) (taken : ℕ) (slot : List ℕ) → CutOf l taken slot → (book_of l).finished ≡ true → taken ≡ length (list_writes l) → ReadsAs (book_of l) slot
  reads_as l taken slot h f e = (at_cut l taken slot h).finished f e

  answers_are : (l : WholeList) → answers_to l ≡ book_answers (begun (length l.earlier) l.channels l.mode) l.calls
  answers_are l = (run l).answers

  pub same_length : SameLength
  unfolding SameLength
  same_length l taken slot h = (at_cut l taken slot h).long

  pub before-begin : BeforeBegin
  unfolding BeforeBegin
  before-begin l slot h =
      let e : slot ≡ l.earlier = (at_cut l 0 slot h).early refl in
      rw e (record { opening = refl; block = λ r ch i. refl; remaining = λ r i. refl; cue = λ r c. refl })

  pub not_finished : NotFinished
  unfolding NotFinished
  not_finished l f taken slot t h = (at_cut l taken slot h).loading (omega arith) (inl f)

  pub write_to_come : WriteToCome
  unfolding WriteToCome
  write_to_come l taken slot t m h = (at_cut l taken slot h).loading (omega arith) (inr m)

  pub no_other_answer : NoOtherAnswer
  unfolding NoOtherAnswer
  no_other_answer l taken slot h =
      let c = at_cut l taken slot h in
      let few = taken_few h in
      by_cases (eqb taken 0)
      (λ z. inl (ap opens (c.early (eqb-true taken 0 z))))
      (λ z.
      let some : 0 < taken = above (eqb-false taken 0 z) in
      by_cases (book_of l).finished
      (λ f. by_cases (ltb taken (length (list_writes l)))
      (λ t. inr (inl (c.loading some (inr (ltb-true _ _ t)))))
      (λ t. let n = ltb-false taken (length (list_writes l)) t in inr (inr (f, (reads_as l taken slot h f (omega arith)).opening))))
      (λ f. inr (inl (c.loading some (inl f)))))
    where
      above : {n : ℕ} → (n ≡ 0 → ⊥) → 0 < n
      above h = omega arith

  -- ---- Every call

  pub most-channels : MostChannels
  unfolding MostChannels PowerCut first_due
  most-channels earlier s mode lent b = (theorem earlier s 18446744073709551615 (omega arith) mode lent b).0

  pub begins : Begins
  unfolding Begins PowerCut first_due
  begins earlier s least most mode lent b one =
      let few = le-ltb slot_limit (length earlier) most in
      let wide = le-ltb (length earlier) slot_least least in
      let room = le-ltb (length lent) 1 one in
      ((theorem earlier s 1 (omega arith) mode lent b).0 ∙ rw (few, wide, room), (theorem earlier s 2 (omega arith) mode lent b).0 ∙ rw (few, wide, room))

  pub begun_good : BegunGood
  unfolding BegunGood PowerCut
  begun_good earlier s ch h mode lent b = (theorem earlier s ch h mode lent b).1

  pub each_good : EachGood
  unfolding EachGood
  each_good l i h d = all-at (records_of (begun_of l).writer l.calls) i d (omega (arith, records_length (begun_of l).writer l.calls)) (run l).good

  pub one_answer_each : OneAnswerEach
  unfolding OneAnswerEach
  one_answer_each l = ap length (answers_are l) ∙ answers-length _ l.calls

  pub each_answer : EachAnswer
  unfolding EachAnswer
  each_answer l before after c e d = rw (answers_are l, e) (answer_at _ before after c d)

  pub finished-length : FinishedLength
  unfolding FinishedLength EachAnswer
  finished-length l before after lent e d n a =
      given (number_due (book_up_to l before) (Call.finish lent)) _ n (sym (each_answer l before after (Call.finish lent) e d) ∙ a)

  -- ---- Once an accepted finish's last write has taken

  reads : (l : WholeList) (slot : List ℕ) → Finished l slot → ReadsAs (book_of l) slot
  reads l slot f = reads_as l (length (list_writes l)) slot f.1 f.0 refl

  pub finished-opens : FinishedOpens
  unfolding FinishedOpens
  finished-opens l slot f = ((reads l slot f).opening, (reads l slot f).readable)

  pub each_block_back : EachBlockBack
  unfolding EachBlockBack block_of
  each_block_back l slot f before after k e ch h =
      (reads l slot f).block ch (length before) ∙ rw (lt-leb _ ch h, ap (drop (length before)) e ∙ drop-append_seam before (k ∷ after))

  pub no_block-back : NoBlockBack
  unfolding NoBlockBack block_of
  no_block-back l slot f ch i = (
    λ h. (reads l slot f).block ch i ∙ rw (le-leb _ ch h),
    λ h p. (reads l slot f).block ch i ∙ rw (lt-leb _ ch h, past_drop (book_of l).blocks i p),
  )

  pub each_remaining : EachRemaining
  unfolding EachRemaining remaining_of
  each_remaining l slot f i = (reads l slot f).remaining i

  pub each_cue_back : EachCueBack
  unfolding EachCueBack
  each_cue_back l slot f before after a e = (reads l slot f).cue (length before) ∙ rw e (get_or-append_seam before a after CueAnswer.ended)

  pub cues_end : CuesEnd
  unfolding CuesEnd
  cues_end l slot f n h = (reads l slot f).cue n ∙ past (cues_of (book_of l)) n CueAnswer.ended h

-- ---- From the finished file

pub each_byte : FinishedFile → EachByte
unfolding FinishedFile EachByte
each_byte theorem l slot f i =
    let b = book_of l in
    let r = theorem l.earlier l.slice l.channels (omega (arith, l.fits)) l.mode l.lent l.buffer l.begins l.calls l.typed f.0 slot f.1 in
    let n = r.long in (
      λ h. rw r.inside (get_or-append (file_bytes b) _ 0 i (omega arith)),
      λ h.
          let k : i ≡ length (file_bytes b) + (i - length (file_bytes b)) = omega arith in
          let m : end_of_blocks b.blocks + (i - length (file_bytes b)) ≡ i = omega arith in
          ap (λ (s : List ℕ). get_or s i 0) r.inside ∙ ap (λ (j : ℕ). get_or (file_bytes b ++ drop (end_of_blocks b.blocks) l.earlier) j 0) k
          ∙ get_or-append-add (file_bytes b) (drop (end_of_blocks b.blocks) l.earlier) (i - length (file_bytes b)) 0
          ∙ get_or-drop (end_of_blocks b.blocks) l.earlier (i - length (file_bytes b)) 0 ∙ ap (λ (j : ℕ). get_or l.earlier j 0) m,
    )

-- ---- From the estimate

pub estimate_enough : EstimateBound → EstimateEnough
unfolding EstimateBound EstimateEnough
estimate_enough theorem l =
    let r = theorem l.earlier l.slice l.channels (omega (arith, l.fits)) l.mode l.lent l.buffer l.begins l.calls l.typed in
    (λ n e. apart-answers (sym r.1 ∙ e), λ n e. let k : r.0 ≡ n = same-given (sym r.1 ∙ e) in omega (arith, r.2))
