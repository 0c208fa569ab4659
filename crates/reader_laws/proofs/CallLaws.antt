-- Addresses remaining and the cue calls over blocks whose headers lie in the slot.
use Prim.Native.Nat.{ℕ, zero, suc, ◌+◌, ◌*◌, ◌≤◌}
use mathlib.Core.Path.{◌≡◌, refl, sym, ap, ◌∙◌}
use mathlib.Core.Bool.{Bool, true, false}
use mathlib.Core.List.{List, [], ◌∷◌}
use native.Mathlib.Omega.{arith}
use native.Mathlib.Numerals.{add-one}
use lib.ListN.{length, drop}
use lib.Dec.{ltb}
use borrow.Author.Tests.{ltb-true, ltb-false}
use Rattle.layout.specs.Choice.{pick, ◌and◌}
use Rattle.layout.specs.Lists.{All, none, more, sum}
use Rattle.layout.specs.Records.{Read, header_at, read_header, cue_at, length_in}
use Rattle.layout.specs.declared.BlockHeader.{BlockHeader}
use Rattle.layout.proofs.Cases.{by_cases, and_true}
use Rattle.reader.specs.declared.HpsReader.{HpsReader}
use Rattle.reader.specs.declared.CueIterator.{CueIterator}
use Rattle.reader.specs.OpeningAndReading.{addresses, offsets_from, lengths_at}
use Rattle.reader.specs.CuesReadBack.{CueAnswer, cursor, CueStep, stepped, loop_here, point_of, base_after, cue_from, nth_cue}
use Rattle.reader.proofs.HeaderLaws.{header_is}
use Rattle.reader.proofs.PartsLaws.{lengths_cons}
use Rattle.reader.proofs.CueLaws.{step_from, step_is, Yields, done, more as yield-more, yields_same, at-loop, at-point, at_next}
use Rattle.reader_laws.proofs.ChainLaws.{InSlot}

-- ---- Addresses remaining

pub lengths_given : (s os : List ℕ) → All (InSlot s) os → (n : ℕ) × (lengths_at s os ≡ addresses n)
unfolding lengths_at
lengths_given s [] a = (0, refl)
lengths_given s (o ∷ os) (more q a) =
    let r = lengths_given s os a in
    (length_in q.0 + r.0, lengths_cons s o os q.0 (length_in q.0) r.0 q.1 refl r.1)

-- ---- The cue calls

drop-next : (i : ℕ) (l : List ℕ) (o : ℕ) (os : List ℕ) → drop i l ≡ o ∷ os → drop (suc i) l ≡ os
drop-next zero [] o os e = absurd cc
drop-next zero (x ∷ l) o os e = cc
drop-next (suc i) [] o os e = absurd cc
drop-next (suc i) (x ∷ l) o os e = drop-next i l o os e

abbrev pub Taken : CueAnswer → Type 0
Taken x = (n : ℕ) → x ≡ CueAnswer.refused n → ⊥

loop_taken : (b : ℕ) → Taken (CueAnswer.loop b)
loop_taken b n e = cc

point_taken : (a b : ℕ) → Taken (CueAnswer.point a b)
point_taken a b n e = cc

ended_taken : Taken CueAnswer.ended
ended_taken n e = cc

-- the cues that the headers at these offsets count
abbrev pub counted : List ℕ → List ℕ → ℕ
counted s os = sum (λ o. (header_at s o).cues) os

module _ (s : List ℕ) (r : HpsReader) where
  -- a cursor from which at most k answers come before the end, none of them refused
  pub record Listed (c : CueIterator) (k : ℕ) : Type 0 where
    pub answers : List CueAnswer
    pub few : length answers ≤ k
    pub taken : All Taken answers
    pub yields : Yields s r c answers

  listed_more : {c c' : CueIterator} {x : CueAnswer} {k : ℕ} → ((c₀ : CueIterator) → step_from s r c₀ c ≡ stepped x c') → Taken x → Listed c' k → Listed c (suc k)
  listed_more {c} {c'} {x} e t l = record { answers = x ∷ l.answers; few = omega (arith, l.few); taken = more t l.taken; yields = yield-more e l.yields }

  listed_same : {c c' : CueIterator} {k : ℕ} → ((c₀ : CueIterator) → step_from s r c₀ c ≡ step_from s r c₀ c') → Listed c' k → Listed c k
  listed_same e l = record { answers = l.answers; few = l.few; taken = l.taken; yields = yields_same s r e l.yields }

  listed_above : {c : CueIterator} (k : ℕ) {m : ℕ} → k ≤ m → Listed c k → Listed c m
  listed_above k h l = record { answers = l.answers; few = omega (arith, l.few); taken = l.taken; yields = l.yields }

  -- at a block where no Loop is due, what comes after it being known
  module _ (i o : ℕ) (os : List ℕ) (here : offsets_from r i ≡ o ∷ os) (b : ℕ) (d : Bool) (e : d and loop_here r.loop_start i ≡ false) (h : BlockHeader) (q : read_header s o ≡ Read.value h) (k : ℕ)
      (rest : Listed (cursor (i + 1) 0 (base_after r b (length_in h)) d) k) where
    next : offsets_from r (i + 1) ≡ os
    next = rw (add-one i) (drop-next i _ o os here)

    passed : (j : ℕ) → h.cues ≤ j → Listed (cursor i j b d) k
    passed j l = listed_same (λ c₀. rw (here, next) (at_next s r c₀ o os i j b d e h q l)) rest

    points : (m j : ℕ) → h.cues ≤ j + m → Listed (cursor i j b d) (m + k)
    points zero j l = listed_above k (omega arith) (passed j (omega arith))
    points (suc m) j l =
        by_cases (ltb j h.cues)
        (λ t.
        listed_above (suc (m + k)) (omega arith)
        (listed_more {c' = cursor i (j + 1) b d} {x = point_of b (cue_at s (o + 32 + 8 * j))}
        (λ c₀. rw here (at-point s r c₀ o os i j b d e h q (ltb-true j h.cues t))) (point_taken _ _) (points m (j + 1) (omega arith))))
        (λ t. listed_above k (omega arith) (passed j (ltb-false j h.cues t)))

  -- a block from its first cue call on
  module _ (i o : ℕ) (os : List ℕ) (here : offsets_from r i ≡ o ∷ os) (q : InSlot s o) (rest : (b : ℕ) (d : Bool) → Listed (cursor (i + 1) 0 b d) (counted s os + pick d 1 0)) where
    after-loop : (j b : ℕ) (d : Bool) → d and loop_here r.loop_start i ≡ false → Listed (cursor i j b d) (counted s (o ∷ os) + pick d 1 0)
    unfolding sum
    after-loop j b d e =
        let h = q.0 in
        let n : h.cues ≡ (header_at s o).cues = ap (λ (x : BlockHeader). x.cues) (header_is s o q.1) in
        let k = counted s os + pick d 1 0 in
        listed_above (h.cues + k) (omega arith) (points i o os here b d e h q.1 k (rest (base_after r b (length_in h)) d) h.cues j (omega arith))

    block_listed : (j b : ℕ) (d : Bool) → Listed (cursor i j b d) (counted s (o ∷ os) + pick d 1 0)
    block_listed j b d =
        by_cases (d and loop_here r.loop_start i)
        (λ t.
        let u : d ≡ true = (and_true d (loop_here r.loop_start i) t).0 in
        let n : ◌≡◌ {A = ℕ} (pick d 1 0) 1 = rw u in
        listed_above (suc (counted s (o ∷ os) + 0)) (omega arith)
        (listed_more {c' = cursor i j b false} {x = CueAnswer.loop b} (λ c₀. rw here (at-loop s r c₀ o os i j b d t)) (loop_taken b) (after-loop j b false refl)))
        (λ t. after-loop j b d t)

  pub listed : (os : List ℕ) (i j b : ℕ) (d : Bool) → offsets_from r i ≡ os → All (InSlot s) os → Listed (cursor i j b d) (counted s os + pick d 1 0)
  unfolding sum cue_from
  listed [] i j b d here a =
      record { answers = []; few = omega arith; taken = none; yields = done {c = cursor i j b d} {c' = cursor i j b d} (λ c₀. rw here) (λ c₀. rw here) }
  listed (o ∷ os) i j b d here (more q a) =
      block_listed i o os here q (λ b d. listed os (i + 1) 0 b d (rw (add-one i) (drop-next i _ o os here)) a) j b d

  -- ---- What the n-th call answers

  stays-ended : (c : CueIterator) → ((c₀ : CueIterator) → step_from s r c₀ c ≡ stepped CueAnswer.ended c) → (n : ℕ) → nth_cue s r c n ≡ CueAnswer.ended
  unfolding nth_cue
  stays-ended c e zero = ap (λ (x : CueStep). x.answer) (step_is s r c ∙ e c)
  stays-ended c e (suc n) = ap (λ (x : CueStep). nth_cue s r x.after n) (step_is s r c ∙ e c) ∙ stays-ended c e n

  pub nth_taken : {c : CueIterator} {xs : List CueAnswer} → Yields s r c xs → All Taken xs → (n : ℕ) → Taken (nth_cue s r c n)
  unfolding nth_cue
  nth_taken {c} (done {c' = c'} p z) a zero = λ k x. ended_taken k (sym (ap (λ (x : CueStep). x.answer) (step_is s r c ∙ p c)) ∙ x)
  nth_taken {c} (done {c' = c'} p z) a (suc n) = λ k x. ended_taken k (sym (ap (λ (x : CueStep). nth_cue s r x.after n) (step_is s r c ∙ p c) ∙ stays-ended c' z n) ∙ x)
  nth_taken {c} (yield-more {x = y} p z) (more t a) zero = λ k x. t k (sym (ap (λ (x : CueStep). x.answer) (step_is s r c ∙ p c)) ∙ x)
  nth_taken {c} (yield-more {c' = c'} p z) (more t a) (suc n) = λ k x. nth_taken z a n k (sym (ap (λ (x : CueStep). nth_cue s r x.after n) (step_is s r c ∙ p c)) ∙ x)

  pub nth_ended : {c : CueIterator} {xs : List CueAnswer} → Yields s r c xs → nth_cue s r c (length xs) ≡ CueAnswer.ended
  unfolding nth_cue
  nth_ended {c} (done p z) = ap (λ (x : CueStep). x.answer) (step_is s r c ∙ p c)
  nth_ended {c} (yield-more {xs = xs} p z) = ap (λ (x : CueStep). nth_cue s r x.after (length xs)) (step_is s r c ∙ p c) ∙ nth_ended z
