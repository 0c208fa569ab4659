-- An opening taken apart, and what holds of every record that it gives.
use Rattle.std.proofs.Common.{Option, Result, Ok, Err}
use Prim.Native.Nat.{ℕ, zero, suc, ◌+◌, ◌≤◌}
use mathlib.Core.Path.{◌≡◌, refl, ap, sym, ◌∙◌}
use mathlib.Core.Bool.{Bool, true, false}
use mathlib.Core.List.{List, [], ◌∷◌, ◌++◌}
use mathlib.Core.Logic.{◌⊎◌, inl, inr, ⊎_elim}
use native.Mathlib.Omega.{arith}
use lib.ListN.{length, length-append}
use lib.Dec.{ltb, eqb}
use borrow.Author.Tests.{eqb-true, not-false}
use Rattle.layout.specs.Choice.{pick, ◌or◌}
use Rattle.layout.specs.Records.{Read, on, field, u32_at, read_channel, read_magic, file_header_size, first_block_offset}
use Rattle.layout.specs.Refusals.{wrong_count, slot_limit, block_limit}
use Rattle.layout.specs.declared.Channel.{Channel}
use Rattle.layout.proofs.Cases.{by_cases}
use Rattle.reader.proofs.HeaderLaws.{header_cases}
use Rattle.reader.specs.declared.HpsReader.{HpsReader}
use Rattle.layout.specs.Answers.{number_of}
use Rattle.layout.specs.declared.refusal.Refusal.{Refusal}
use Rattle.reader.specs.ReaderAnswers.{opened_says}
use Rattle.reader.specs.OpeningAndReading.{Walked, refused, walked, first_at, walk_from, Opened, on_walk, made, opening, Readable}

-- ---- Taking an opening apart

module _ {r : HpsReader} where
  not_opened : {A : Type 0} (n : ℕ) → Opened.refused n ≡ Opened.opened r → A
  not_opened n e = absurd cc

  past_test : (b : Bool) (n : ℕ) {x : Opened} → pick b (Opened.refused n) x ≡ Opened.opened r → (b ≡ false) × (x ≡ Opened.opened r)
  past_test true n e = not_opened n e
  past_test false n e = (refl, e)

  past_read : {A : Type 0} (q : Read A) {g : A → Opened} → on q Opened.refused g ≡ Opened.opened r → (a : A) × (q ≡ Read.value a) × (g a ≡ Opened.opened r)
  past_read (Read.refused n) e = not_opened n e
  past_read (Read.value a) e = (a, refl, e)

  past_walk : (w : Walked) {g : List ℕ → Option ℕ → Opened} → on_walk w g ≡ Opened.opened r → (os : List ℕ) × (start : Option ℕ) × (w ≡ Walked.walked os start) × (g os start ≡ Opened.opened r)
  past_walk (refused n) e = not_opened n e
  past_walk (walked os start) e = (os, start, refl, e)

  same_record : {x : HpsReader} → Opened.opened x ≡ Opened.opened r → x ≡ r
  same_record e = cc

-- the record's parts, and the walk that gave them
pub record Parts (s : List ℕ) (r : HpsReader) : Type 0 where
  pub rate : ℕ
  pub count : ℕ
  pub left : Channel
  pub right : Channel
  pub offsets : List ℕ
  pub start : Option ℕ
  pub rate_read : field s 12 (u32_at s 8) ≡ Read.value rate
  pub count_read : field s 16 (u32_at s 12) ≡ Read.value count
  pub right_count : wrong_count count ≡ false
  pub left_read : read_channel s 16 ≡ Read.value left
  pub right_read : read_channel s 72 ≡ Read.value right
  pub walk : walk_from block_limit s [] first_block_offset ≡ Walked.walked offsets start
  pub is : made rate count left right offsets start ≡ r

pub opened_parts_lem : (s : List ℕ) (r : HpsReader) → opening s ≡ Opened.opened r → Parts s r
unfolding opening
opened_parts_lem s r e =
    let a = past_test (ltb slot_limit (length s)) 7 e in
    let b = past_read (read_magic s) a.1 in
    let d = past_read (field s 12 (u32_at s 8)) b.2 in
    let f = past_read (field s 16 (u32_at s 12)) d.2 in
    let g = past_test (wrong_count f.0) 3 f.2 in
    let l = past_read (read_channel s 16) g.1 in
    let x = past_read (read_channel s 72) l.2 in
    let w = past_walk (walk_from block_limit s [] first_block_offset) {g = λ os start. Opened.opened (made d.0 f.0 l.0 x.0 os start)} x.2 in
    record {
      rate = d.0;
      count = f.0;
      left = l.0;
      right = x.0;
      offsets = w.0;
      start = w.1;
      rate_read = d.1;
      count_read = f.1;
      right_count = g.0;
      left_read = l.1;
      right_read = x.1;
      walk = w.2;
      is = same_record {x = made d.0 f.0 l.0 x.0 w.0 w.1} w.3;
    }

pub one_or_two : (n : ℕ) → wrong_count n ≡ false → (n ≡ 1) ⊎ (n ≡ 2)
one_or_two n e =
    by_cases (eqb n 1) (λ t. inl (eqb-true n 1 t))
    (λ t. inr (eqb-true n 2 (let k : eqb n 1 or eqb n 2 ≡ true = not-false _ e in rw t at k)))

-- ---- The premise of the reading calls

pub not_walked : {A : Type 0} (n : ℕ) (os : List ℕ) (start : Option ℕ) → Walked.refused n ≡ Walked.walked os start → A
not_walked n os start e = absurd cc

walked_few : (m : ℕ) {here os : List ℕ} {l start : Option ℕ} → length here ≤ m → Walked.walked here l ≡ Walked.walked os start → length os ≤ m
walked_few m {here} {os} h e = let x : here ≡ os = cc in rw (← x) h

-- a walk gives no more blocks than it may read
walk_few : (n : ℕ) (s seen : List ℕ) (at : ℕ) (os : List ℕ) (start : Option ℕ) → walk_from n s seen at ≡ Walked.walked os start → length os ≤ length seen + n
unfolding walk_from
walk_few zero s seen at os start e = not_walked 5 os start e
walk_few (suc n) s seen at os start e =
    header_cases s at
    (λ t. not_walked 1 os start (rw t at e))
    (λ h t.
    let here = seen ++ (at ∷ []) in
    let next = h.next_offset in
    let long : length here ≡ length seen + 1 = length-append seen (at ∷ []) in
    let fits : length here ≤ length seen + suc n = omega arith in
    let e1 = rw t at e in
    by_cases (eqb next 4294967295)
    (λ u. walked_few (length seen + suc n) fits (rw u at e1))
    (λ u.
    let e2 = rw u at e1 in
    by_cases (ltb (first_at next here) (length here))
    (λ v. walked_few (length seen + suc n) fits (rw v at e2))
    (λ v. omega (arith, walk_few n s here next os start (rw v at e2), long))))

pub opened_readable : (s : List ℕ) (r : HpsReader) → opening s ≡ Opened.opened r → Readable r
unfolding made
opened_readable s r e =
    let p = opened_parts_lem s r e in
    rw (← p.is)
    (record { channels = ⊎_elim (λ h. omega arith) (λ h. omega arith) (one_or_two p.count p.right_count); blocks = walk_few block_limit s [] file_header_size p.offsets p.start p.walk })

-- ---- What the answer tells

module _ (s : List ℕ) (q : Result HpsReader Refusal) (e : opened_says q ≡ opening s) where
  pub call_refused : (r : Refusal) → q ≡ Err r → opening s ≡ Opened.refused (number_of r)
  call_refused r h = sym e ∙ ap opened_says h

  pub call_opened : (r : HpsReader) → q ≡ Ok r → opening s ≡ Opened.opened r
  call_opened r h = sym e ∙ ap opened_says h
