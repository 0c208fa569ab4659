-- What a call that puts lines does, case by case.
use Prim.Native.Nat.{ℕ, ◌+◌, ◌-◌, ◌<◌, ◌≤◌}
use mathlib.Core.Path.{◌≡◌, refl, ap, sym, ◌∙◌}
use mathlib.Core.List.{List, [], ◌∷◌, ◌++◌, flatten, append_assoc, append-nil}
use native.Mathlib.Omega.{arith}
use lib.ListN.{length, take, length-append}
use lib.Dec.{leb}
use Rattle.layout.proofs.Cases.{by_cases}
use borrow.Author.Tests.{lt-leb, le-leb, leb-true, leb-false, eq-eqb, ne_eqb}
use lib.Seq.{length-take-le}
use Rattle.layout.specs.Puts.{put_at}
use Rattle.layout.proofs.PutLaws.{put_at-none, put_at_out, put_at-next, put_at-length}
use Rattle.reader.specs.CuesReadBack.{CueStep, cue_step}
use Rattle.reader.specs.declared.HpsReader.{HpsReader}
use Rattle.reader.specs.declared.CueIterator.{CueIterator}
use Rattle.reader_cues.specs.CueAnswers.{cue_says, cue_called}
use Rattle.reader_cues.specs.declared.ReadCue.{ReadCue}
use Rattle.layout.specs.Answers.{number_of}
use Rattle.layout.specs.declared.refusal.Refusal.{Refusal}
use Rattle.reader_cues.specs.declared.CueCall.{CueCall}
use Rattle.key_listing.specs.declared.Stage.{Stage}
use Rattle.key_listing.specs.declared.listing.Line.{Line}
use Rattle.key_lines.specs.Lines.{loop_line, cue_line, LinePut}
use Rattle.key_listing.specs.MarkingKey.{lines_from, listing_from}
use Rattle.std.specs.Prelude.{Option, Some, None, Result, Ok, Err}
use Rattle.key_listing.specs.Filling.{LineIs, FilledIs, line_or, length_put, stage_after, lines_fitting, lines_beyond, line_fitting, lines_after}
use Rattle.key_listing.proofs.ListingLaws.{cues-none, cues_refused, cues_end, cues-loop, cues-point, Sized, sized}
use Rattle.key_listing.proofs.ListingLaws.{first_fits, fitting_next, beyond_next, full, fitting_beyond, fitting_fits, none_left}

module _ (s : List ℕ) (r : HpsReader) (stage : Stage) (out : List ℕ) (at : ℕ) where
  -- nothing is left
  pub line_done : lines_from s r stage ≡ [] → LineIs s r stage out at out None
  line_done h = record { some = tt; long = rw h; put = rw h (sym (put_at-none out at)); rest = rw h }

  -- the next line, put where it fits
  pub line_or_lem : (line : List ℕ) (next : Stage) {after : List ℕ} {n : ℕ} → lines_from s r stage ≡ line ∷ lines_from s r next
      → LinePut out at line after n → (q : Option Line) → q ≡ line_or n next → LineIs s r stage out at after q
  unfolding Sized
  line_or_lem line next {after} {n} h p q e =
      let some = (rw h at (sized s r stage)).0.0 in
      rw e (by_cases (leb (at + length line) (length out))
      (λ f.
      let i = leb-true (at + length line) (length out) f in
      let t = le-leb (length line) (length out - at) (omega arith) in
      let l : n ≡ length line = p.long ∙ rw f in
      let z = ne_eqb n 0 (λ m. omega arith) in
      rw z (record { some = omega arith; long = rw (h, t) l; put = rw (h, t) p.put; rest = rw (h, t) }))
      (λ f.
      let i = leb-false (at + length line) (length out) f in
      let t = lt-leb (length line) (length out - at) (omega arith) in
      let l : n ≡ 0 = p.long ∙ rw f in
      rw (eq-eqb n 0 l) (record { some = tt; long = rw (h, t); put = rw (h, t) (p.put ∙ put_at_out out at line i ∙ sym (put_at-none out at)); rest = rw (h, t) })))

after_as : (s : List ℕ) (r : HpsReader) (t u : Stage) → lines_from s r t ≡ lines_from s r u → (p : Option Line) → lines_from s r (stage_after t p) ≡ lines_from s r (stage_after u p)
after_as s r t u e None = e
after_as s r t u e (Some p) = refl

module _ (s : List ℕ) (r : HpsReader) (out : List ℕ) (at : ℕ) {after : List ℕ} {q : Option Line} where
  -- the stage that it is
  pub stage_as : {t u : Stage} → t ≡ u → LineIs s r u out at after q → LineIs s r t out at after q
  stage_as e l = rw e l

  -- two stages with the same lines
  pub lines_as : {t u : Stage} → lines_from s r t ≡ lines_from s r u → LineIs s r u out at after q → LineIs s r t out at after q
  lines_as e l = record { some = l.some; long = rw e l.long; put = rw e l.put; rest = after_as s r _ _ e q ∙ rw e l.rest }

  pub cursor_as : {n : ℕ} {c d : CueIterator} → c ≡ d → LineIs s r (Stage.Cues n c) out at after q → LineIs s r (Stage.Cues n d) out at after q
  cursor_as e l = rw (← e) l

-- ---- Cues

pub some : (n : ℕ) → (n ≡ 0 → ⊥) → 0 < n
some n h = omega arith

pub cues_gone : (s : List ℕ) (r : HpsReader) (n : ℕ) (c : CueIterator) → n ≡ 0 → lines_from s r (Stage.Cues n c) ≡ []
cues_gone s r n c e = ap (λ (m : ℕ). lines_from s r (Stage.Cues m c)) e ∙ cues-none s r c

module _ (s : List ℕ) (r : HpsReader) (n : ℕ) (c : CueIterator) (some : 0 < n) (call : CueCall) (e : cue_called call ≡ cue_step s r c) where
  answer : {q : Result (Option ReadCue) Refusal} → call.answer ≡ q → (cue_step s r c).answer ≡ cue_says q
  answer h = sym (ap (λ (x : CueStep). x.answer) e) ∙ ap cue_says h

  cursor-is : (cue_step s r c).after ≡ call.cursor
  cursor-is = sym (ap (λ (x : CueStep). x.after) e)

  pub after_refused : (k : Refusal) → call.answer ≡ Err k → lines_from s r (Stage.Cues n c) ≡ []
  after_refused k h = cues_refused s r n c some (number_of k) (answer h)

  pub after_end : call.answer ≡ Ok None → lines_from s r (Stage.Cues n c) ≡ []
  after_end h = cues_end s r n c some (answer h)

  pub after-loop : (b : ℕ) → call.answer ≡ Ok (Some (ReadCue.Loop b)) → lines_from s r (Stage.Cues n c) ≡ loop_line b ∷ lines_from s r (Stage.Cues (n - 1) call.cursor)
  after-loop b h = cues-loop s r n c some b (answer h) ∙ ap (λ (x : CueIterator). loop_line b ∷ lines_from s r (Stage.Cues (n - 1) x)) cursor-is

  pub after-point : (b k : ℕ) → call.answer ≡ Ok (Some (ReadCue.Point b k))
      → lines_from s r (Stage.Cues n c) ≡ cue_line b k ∷ lines_from s r (Stage.Cues (n - 1) call.cursor)
  after-point b k h = cues-point s r n c some b k (answer h) ∙ ap (λ (x : CueIterator). cue_line b k ∷ lines_from s r (Stage.Cues (n - 1) x)) cursor-is

-- ---- Filling

none : (l : List ℕ) → length l ≡ 0 → l ≡ []
none [] e = refl
none (x ∷ l) e = absurd (omega arith)

-- The lines put so far: with those that still fit they are all that fit, and those beyond are the same.
pub record Filling (s : List ℕ) (r : HpsReader) (from : Stage) (before : List ℕ) (out : List ℕ) (stage : Stage) (at : ℕ) : Type 0 where
  pub lines : List ℕ
  pub long : length lines ≡ at
  pub fits : at ≤ length before
  pub same : length out ≡ length before
  pub is : out ≡ put_at before 0 lines
  pub all : lines_fitting (length before) (lines_from s r from) ≡ lines ++ lines_fitting (length before - at) (lines_from s r stage)
  pub beyond : lines_beyond (length before) (lines_from s r from) ≡ lines_beyond (length before - at) (lines_from s r stage)

module _ {s : List ℕ} {r : HpsReader} {from : Stage} {before : List ℕ} where
  pub filling-none : Filling s r from before before from 0
  filling-none =
      let z : length before - 0 ≡ length before = omega arith in
      record { lines = []; long = refl; fits = omega arith; same = refl; is = sym (put_at-none before 0); all = rw z; beyond = rw z }

  module _ {out : List ℕ} {stage : Stage} {at : ℕ} (f : Filling s r from before out stage at)
      {after : List ℕ} {q : Option Line} (l : LineIs s r stage out at after q) where
    abbrev ls : List (List ℕ)
    ls = lines_from s r stage

    abbrev room : ℕ
    room = length before - at

    -- the line that was put, by the buffer's length at the start
    long-line : length_put q ≡ length (line_fitting room ls)
    long-line = l.long ∙ ap (λ (n : ℕ). length (line_fitting (n - at) ls)) f.same

    put-line : after ≡ put_at out at (line_fitting room ls)
    put-line = l.put ∙ ap (λ (n : ℕ). put_at out at (line_fitting (n - at) ls)) f.same

    rest-line : lines_from s r (stage_after stage q) ≡ lines_after room ls
    rest-line = l.rest ∙ ap (λ (n : ℕ). lines_after (n - at) ls) f.same

    same-room : room - length (line_fitting room ls) ≡ length before - (at + length_put q)
    same-room = omega (arith, long-line)

    -- one line more
    pub filling-more : Filling s r from before after (stage_after stage q) (at + length_put q)
    filling-more =
        let w = line_fitting room ls in
        let k = first_fits room ls in
        let x = f.long in
        let y = long-line in
        let h = f.fits in
        let n : at ≡ 0 + length f.lines = omega arith in
        let a = length-append f.lines w in
        record {
          lines = f.lines ++ w;
          long = omega arith;
          fits = omega arith;
          same = ap length put-line ∙ put_at-length out at w ∙ f.same;
          is =
              put-line ∙ ap (λ (b : List ℕ). put_at b at w) f.is ∙ ap (λ (m : ℕ). put_at (put_at before 0 f.lines) m w) n
              ∙ put_at-next before 0 f.lines w (omega arith);
          all =
              f.all ∙ ap (λ (b : List ℕ). f.lines ++ b) (fitting_next room ls ∙ ap (λ (m : ℕ). w ++ lines_fitting m (lines_after room ls)) same-room
              ∙ ap (λ (b : List (List ℕ)). w ++ lines_fitting (length before - (at + length_put q)) b) (sym rest-line))
              ∙ sym (append_assoc f.lines w (lines_fitting (length before - (at + length_put q)) (lines_from s r (stage_after stage q))));
          beyond =
              f.beyond ∙ beyond_next room ls ∙ ap (λ (m : ℕ). lines_beyond m (lines_after room ls)) same-room
              ∙ ap (lines_beyond (length before - (at + length_put q))) (sym rest-line);
        }

    -- no line was put
    pub filled : q ≡ None → FilledIs s r from before after (record { length = at; stage = stage })
    filled n =
        let e : length (line_fitting room ls) ≡ 0 = sym long-line ∙ ap length_put n in
        let u = full room ls (sized s r stage) e in
        let a : lines_fitting (length before) (lines_from s r from) ≡ f.lines = f.all ∙ ap (λ (b : List ℕ). f.lines ++ b) u.put ∙ append-nil f.lines in
        record {
          long = sym f.long ∙ ap length (sym a);
          put = put-line ∙ ap (put_at out at) (none (line_fitting room ls) e) ∙ put_at-none out at ∙ f.is ∙ ap (put_at before 0) (sym a);
          rest = ap (λ (p : Option Line). lines_from s r (stage_after stage p)) (sym n) ∙ rest-line ∙ sym u.left ∙ sym f.beyond;
        }

-- ---- What is filled

module _ {s : List ℕ} {r : HpsReader} {stage : Stage} {before after : List ℕ} {q : Line} (f : FilledIs s r stage before after q) where
  pub filled-fits : q.length ≤ length before
  filled-fits = omega (arith, f.long, fitting_fits (length before) (lines_from s r stage))

  pub filled-inside : q.length ≤ length after
  filled-inside = omega (arith, filled-fits, ap length f.put ∙ put_at-length before 0 (lines_fitting (length before) (lines_from s r stage)))

  -- the lines are the first bytes of the buffer
  pub filled_prefix : q.length ≡ length (take q.length after)
  filled_prefix = sym (length-take-le q.length after filled-inside)

  -- with those after them they are the listing
  pub filled-rest : listing_from s r stage ≡ lines_fitting (length before) (lines_from s r stage) ++ listing_from s r q.stage
  filled-rest = rw f.rest (fitting_beyond (length before) (lines_from s r stage))

  -- none is left where none was put and the longest has room
  pub filled_none : 60 ≤ length before → q.length ≡ 0 → listing_from s r q.stage ≡ []
  unfolding flatten
  filled_none h z = rw (f.rest, none_left (length before) (lines_from s r stage) (sized s r stage) h (sym f.long ∙ z))
