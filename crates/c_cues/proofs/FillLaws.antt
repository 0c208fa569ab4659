-- As many cue calls as there is room for: the loop's invariant, and what each way out of it gives.
use Rattle.std.proofs.Common.{Option, Some, None, Result, Ok, Err}
use Rattle.c_opened.specs.declared.failure.Failure.{Failure}
use Rattle.c_opened.specs.Failures.{failure_number}
use Prim.Native.Nat.{ℕ, zero, suc, ◌+◌, ◌*◌, ◌-◌, ◌/◌, ◌≤◌, ◌<◌}
use mathlib.Core.Path.{◌≡◌, refl, sym, ap, ◌∙◌}
use mathlib.Core.Bool.{Bool}
use mathlib.Core.List.{List, [], ◌∷◌, ◌++◌, append_assoc, append-nil}
use native.Mathlib.Omega.{arith}
use native.Mathlib.Nat.{add_assoc, add-zero}
use lib.ListN.{length}
use lib.Dec.{ltb}
use Rattle.layout.specs.Choice.{◌and◌}
use Rattle.layout.specs.Puts.{put_at}
use Rattle.layout.specs.Records.{cue_at, length_in}
use Rattle.layout.proofs.Cases.{by_cases}
use Rattle.layout.proofs.PutLaws.{Put, put_then, put_at-none}
use Rattle.layout.specs.declared.DspFormat.{DspFormat}
use Rattle.reader.specs.declared.HpsReader.{HpsReader}
use Rattle.reader.specs.declared.CueIterator.{CueIterator}
use Rattle.reader.specs.OpeningAndReading.{offsets_from}
use Rattle.reader.specs.CuesReadBack.{CueAnswer, CueStep, loop_here, point_of, base_after, cue_from, cue_step}
use Rattle.reader.proofs.HeaderLaws.{header_cases}
use Rattle.reader_cues.specs.declared.CueCall.{CueCall}
use Rattle.reader_cues.specs.declared.ReadCue.{ReadCue}
use Rattle.layout.specs.Answers.{number_of}
use Rattle.layout.specs.declared.refusal.Refusal.{Refusal}
use Rattle.reader_cues.specs.CueAnswers.{cue_says, cue_called, PartsOf}
use Rattle.c_cues.specs.KeptCues.{CuesCounted, CuesGiven, no_cue_given, ahead, one_cue, cues_given, filled_of, given_of}
use Rattle.c_cues.specs.CueBytes.{cue_kept, answered, answer_put}
use Rattle.c_cues.proofs.CueBytesLaws.{cue-long, cue-put}

-- a refused call's number is 1
module _ (s : List ℕ) (r : HpsReader) (c : CueIterator) where
  from_one : (os : List ℕ) (i j b : ℕ) (d : Bool) (n : ℕ) → (cue_from s r c os i j b d).answer ≡ CueAnswer.refused n → n ≡ 1
  unfolding cue_from
  from_one [] i j b d n e = absurd (let z : ◌≡◌ {A = ℕ} 0 1 = cc in omega arith)
  from_one (o ∷ os) i j b d n e =
      by_cases (d and loop_here r.loop_start i)
      (λ t. let k : CueAnswer.loop b ≡ CueAnswer.refused n = rw t at e in absurd (let z : ◌≡◌ {A = ℕ} 0 1 = cc in omega arith))
      (λ t.
      let k = rw t at e in
      header_cases s o
      (λ h. let x : CueAnswer.refused 1 ≡ CueAnswer.refused n = rw h at k in cc)
      (λ v h.
      let x = rw h at k in
      by_cases (ltb j v.cues)
      (λ u. let y : point_of b (cue_at s (o + 32 + 8 * j)) ≡ CueAnswer.refused n = rw u at x in absurd (let z : ◌≡◌ {A = ℕ} 0 1 = cc in omega arith))
      (λ u. from_one os (i + 1) 0 (base_after r b (length_in v)) d n (rw u at x))))

  pub refused_one : (n : ℕ) → (cue_step s r c).answer ≡ CueAnswer.refused n → n ≡ 1
  unfolding cue_step
  refused_one n e = from_one (offsets_from r c.block) c.block c.place c.base c.due n e

-- ---- What calls give, with others ahead

ahead_none : (g : CuesGiven) → ahead 0 [] g ≡ g
ahead_none g = let e : 0 + g.count ≡ g.count = omega arith in rw e

ahead-ahead : (m : ℕ) (bs cs : List ℕ) (g : CuesGiven) → ahead m bs (ahead 1 cs g) ≡ ahead (m + 1) (bs ++ cs) g
ahead-ahead m bs cs g = rw (add_assoc, append_assoc)

-- calls that give no cue give no bytes
pub none-given : (s : List ℕ) (r : HpsReader) (room : ℕ) (c : CueIterator) → (cues_given s r room c).count ≡ 0 → (cues_given s r room c).bytes ≡ []
unfolding cues_given
none-given s r zero c z = refl
none-given s r (suc n) c z = of (cue_step s r c).answer (cue_step s r c).after (cues_given s r n (cue_step s r c).after) z
  where
    of : (a : CueAnswer) (after : CueIterator) (rest : CuesGiven) → (one_cue a after rest).count ≡ 0 → (one_cue a after rest).bytes ≡ []
    of (CueAnswer.refused k) after rest z = refl
    of CueAnswer.ended after rest z = refl
    of (CueAnswer.loop b) after rest z = absurd (omega arith)
    of (CueAnswer.point b k) after rest z = absurd (omega arith)

-- ---- The loop

-- so many cues of 16 bytes are put
pub record Room (before out : List ℕ) (cues at : ℕ) : Type 0 where
  pub same : length out ≡ length before
  pub fits : at ≤ length before
  pub sixteens : at ≡ 16 * cues

-- they are the first of those that the calls give, and the calls that are left give the others
pub record Filling (s : List ℕ) (r : HpsReader) (from : CueIterator) (before out : List ℕ) (c : CueIterator) (cues at : ℕ) : Type 0 where
  pub bytes : List ℕ
  pub put : Put before 0 at bytes out
  pub rest : cues_given s r (length before / 16) from ≡ ahead cues bytes (cues_given s r (length before / 16 - cues) c)

pub room-none : {out : List ℕ} → Room out out 0 0
room-none = record { same = refl; fits = omega arith; sixteens = refl }

pub filling-none : (s : List ℕ) (r : HpsReader) (from : CueIterator) (out : List ℕ) → Filling s r from out out from 0 0
filling-none s r from out =
    let e : length out / 16 - 0 ≡ length out / 16 = omega arith in
    record { bytes = []; put = record { size = refl; is = sym (put_at-none out 0) }; rest = sym (ahead_none _ ∙ ap (λ (n : ℕ). cues_given s r n from) e) }

module _ (s : List ℕ) (r : HpsReader) (from : CueIterator) (before out : List ℕ) (c : CueIterator) (cues at : ℕ) (m : Room before out cues at) (p : Filling s r from before out c cues at) where
  -- a call that gives no cue, or no room for one
  last : (n : ℕ) (after : CueIterator) → cues_given s r (length before / 16 - cues) c ≡ no_cue_given n after
      → (filled_of n cues after ≡ given_of (cues_given s r (length before / 16) from)) × (out ≡ put_at before 0 (cues_given s r (length before / 16) from).bytes)
  last n after e =
      let w : cues_given s r (length before / 16) from ≡ ahead cues p.bytes (no_cue_given n after) = p.rest ∙ ap (ahead cues p.bytes) e in
      (sym (ap given_of w ∙ rw (add-zero)), p.put.is ∙ sym (ap (λ (g : CuesGiven). put_at before 0 g.bytes) w ∙ rw append-nil))

  pub no_room : length before - at < 16
      → (filled_of 0 cues c ≡ given_of (cues_given s r (length before / 16) from)) × (out ≡ put_at before 0 (cues_given s r (length before / 16) from).bytes)
  unfolding cues_given
  no_room h =
      let f = m.sixteens in
      let z : length before / 16 - cues ≡ 0 = omega arith in
      last 0 c (ap (λ (n : ℕ). cues_given s r n c) z)

  module _ (h : 16 ≤ length before - at) where
    one_left : length before / 16 - cues ≡ suc (length before / 16 - (cues + 1))
    one_left = let f = m.sixteens in omega arith

    step : cues_given s r (length before / 16 - cues) c ≡ one_cue (cue_step s r c).answer (cue_step s r c).after (cues_given s r (length before / 16 - (cues + 1)) (cue_step s r c).after)
    unfolding cues_given
    step = ap (λ (n : ℕ). cues_given s r n c) one_left

    -- a cue is given
    given : (start kind name : ℕ) {l : List ℕ} → cues_given s r (length before / 16 - cues) c ≡ ahead 1 (cue_kept start kind name)
        (cues_given s r (length before / 16 - (cues + 1)) (cue_step s r c).after)
        → l ≡ put_at out at (cue_kept start kind name) → Filling s r from before l (cue_step s r c).after (cues + 1) (at + 16)
    given start kind name e f =
        let z : at ≡ 0 + at = omega arith in
        record {
          bytes = p.bytes ++ cue_kept start kind name;
          put = put_then p.put (cue_kept start kind name) (cue-long start kind name) f z (omega arith);
          rest = p.rest ∙ ap (ahead cues p.bytes) e ∙ ahead-ahead cues p.bytes (cue_kept start kind name) _;
        }

    room : at + 16 ≤ length out
    room = omega (arith, m.same)

    more_of : (v : Result (Option ReadCue) Refusal) → (cue_step s r c).answer ≡ cue_says v → {u : Unit {0}} {l : List ℕ} → Ok u ≡ answered v → l ≡ answer_put out at (cue_says v)
        → Filling s r from before l (cue_step s r c).after (cues + 1) (at + 16)
    more_of (Err k) e f g = cc
    more_of (Ok None) e f g = cc
    more_of (Ok (Some (ReadCue.Loop b))) e f g = given b 1 0 (step ∙ rw e) (g ∙ cue-put out at b 1 0 room)
    more_of (Ok (Some (ReadCue.Point b k))) e f g = given b 0 k (step ∙ rw e) (g ∙ cue-put out at b 0 k room)

    last_of : (v : Result (Option ReadCue) Refusal) → (cue_step s r c).answer ≡ cue_says v → (x : Failure) {l : List ℕ} → Err x ≡ answered v → l ≡ answer_put out at (cue_says v)
        → (filled_of (failure_number x) cues (cue_step s r c).after ≡ given_of (cues_given s r (length before / 16) from)) × (l ≡ put_at before 0 (cues_given s r (length before / 16) from).bytes)
    last_of (Err k) e x f g = let y : x ≡ Failure.Refused k = cc in let w = last (number_of k) (cue_step s r c).after (step ∙ rw e) in (rw y w.0, g ∙ w.1)
    last_of (Ok None) e x f g = let y : x ≡ Failure.End = cc in let w = last 255 (cue_step s r c).after (step ∙ rw e) in (rw y w.0, g ∙ w.1)
    last_of (Ok (Some a)) e x f g = cc

    module _ (q : CueCall) (e : cue_called q ≡ cue_step s r c) {l : List ℕ} (g : l ≡ answer_put out at (cue_says q.answer)) where
      answer-is : (cue_step s r c).answer ≡ cue_says q.answer
      answer-is = sym (ap (λ (x : CueStep). x.answer) e)

      after-is : q.cursor ≡ (cue_step s r c).after
      after-is = ap (λ (x : CueStep). x.after) e

      pub filling-more : {u : Unit {0}} → Ok u ≡ answered q.answer → Filling s r from before l q.cursor (cues + 1) (at + 16)
      filling-more f = rw after-is (more_of q.answer answer-is f g)

      pub filling-last : (x : Failure) → Err x ≡ answered q.answer
          → (filled_of (failure_number x) cues q.cursor ≡ given_of (cues_given s r (length before / 16) from)) × (l ≡ put_at before 0 (cues_given s r (length before / 16) from).bytes)
      filling-last x f = rw after-is (last_of q.answer answer-is x f g)

pub room-more : {before out l : List ℕ} {cues at : ℕ} → Room before out cues at → 16 ≤ length before - at → length l ≡ length out → Room before l (cues + 1) (at + 16)
room-more m h e = let f = m.sixteens in let s = m.same in record { same = e ∙ s; fits = omega arith; sixteens = omega arith }

-- ---- The same of every record that has these parts

-- what the loop answers
abbrev pub Filled : (s : List ℕ) (r : HpsReader) (from : CueIterator) (before after : List ℕ) → CuesCounted → Type 0
Filled s r from before after x = (x ≡ given_of (cues_given s r (length before / 16) from)) × (after ≡ put_at before 0 (cues_given s r (length before / 16) from).bytes)

module _ (s os : List ℕ) (blocks : ℕ) (start : Option ℕ) (f : DspFormat) (from : CueIterator) (before out : List ℕ) (c : CueIterator) (cues at : ℕ) (m : Room before out cues at)
    (p : (r : HpsReader) → PartsOf r os blocks start f → Filling s r from before out c cues at) where
  pub all_end : length out - at < 16 → {x : CuesCounted} → x ≡ filled_of 0 cues c → (r : HpsReader) → PartsOf r os blocks start f → Filled s r from before out x
  all_end h e r o = let w = no_room s r from before out c cues at m (p r o) (omega (arith, m.same)) in (e ∙ w.0, w.1)

  module _ (h : 16 ≤ length out - at) (q : CueCall) (e : (r : HpsReader) → PartsOf r os blocks start f → cue_called q ≡ cue_step s r c) {l : List ℕ}
      (k : l ≡ answer_put out at (cue_says q.answer)) where
    room-left : 16 ≤ length before - at
    room-left = omega (arith, m.same)

    pub all_more : {u : Unit {0}} → Ok u ≡ answered q.answer → length l ≡ length out
        → Room before l (cues + 1) (at + 16) × ((r : HpsReader) → PartsOf r os blocks start f → Filling s r from before l q.cursor (cues + 1) (at + 16))
    all_more z i = (room-more m room-left i, λ r o. filling-more s r from before out c cues at m (p r o) room-left q (e r o) k z)

    pub all-last : (n : Failure) → Err n ≡ answered q.answer → {x : CuesCounted} → x ≡ filled_of (failure_number n) cues q.cursor
        → (r : HpsReader) → PartsOf r os blocks start f → Filled s r from before l x
    all-last n z i r o = let w = filling-last s r from before out c cues at m (p r o) room-left q (e r o) k n z in (i ∙ w.0, w.1)
