-- The loop of the cue call: its invariant, and what each way out of it answers.
use Rattle.std.proofs.Common.{◌≡◌, ℕ, ◌+◌, ◌*◌, ◌%◌, ◌^◌, ◌<◌, ◌≤◌, min, Bool, true, false, ltb, List, [], ◌∷◌, length, sym, refl, ap, ◌∙◌, arith, Option}
use Rattle.layout.specs.Choice.{pick, ◌and◌}
use Rattle.layout.specs.Records.{Read, on, field, read_header, cue_at, length_in, num_samples}
use Rattle.layout.specs.declared.BlockHeader.{BlockHeader}
use Rattle.layout.proofs.FieldLaws.{field-inside}
use Rattle.layout.specs.declared.DspFormat.{DspFormat}
use Rattle.reader.specs.declared.HpsReader.{HpsReader}
use Rattle.reader.specs.declared.CueIterator.{CueIterator}
use Rattle.reader.specs.OpeningAndReading.{channel_in, offset_in, offsets_from}
use Rattle.reader.specs.CuesReadBack.{CueAnswer, CueStep, cursor, stepped, loop_here, point_of, base_after, cue_from, cue_step}
use Rattle.reader_cues.specs.CueAnswers.{point_read, record_with, PartsOf}
use Rattle.reader.proofs.HeaderLaws.{header-inside}
use Rattle.layout.proofs.Lengths.{padded_size_above}
use Rattle.reader.proofs.RecordLaws.{offsets_past, offsets_next}
use Rattle.reader.proofs.CueLaws.{step_is, at-loop, at-point, at_next}

-- a header that was read has its cues in the slot
pub cues-inside : (s : List ℕ) (offset place : ℕ) (h : BlockHeader) → Read.value h ≡ read_header s offset → place < h.cues → offset + 32 + 8 * place + 8 ≤ length s
cues-inside s offset place h e k = omega (arith, header-inside s offset (sym e), padded_size_above (8 * h.cues))

-- what is left from here on is the whole
pub record Stepping (s : List ℕ) (r : HpsReader) (c : CueIterator) (block place base : ℕ) : Type 0 where
  pub same : cue_step s r c ≡ cue_from s r c (offsets_from r block) block place base c.due

pub stepping_none : (s : List ℕ) (r : HpsReader) (c : CueIterator) → Stepping s r c c.block c.place c.base
stepping_none s r c = record { same = step_is s r c }

-- a block whose header was read, and where no Loop is due
pub record Here (s : List ℕ) (r : HpsReader) (c : CueIterator) (block place base : ℕ) (h : BlockHeader) : Type 0 where
  pub same : cue_step s r c ≡ cue_from s r c (offset_in r block ∷ offsets_from r (block + 1)) block place base c.due
  pub loop : c.due and loop_here r.loop_start block ≡ false
  pub header : Read.value h ≡ read_header s (offset_in r block)

module _ {s : List ℕ} {r : HpsReader} {c : CueIterator} {block place base : ℕ} (w : Stepping s r c block place base) {count : ℕ} (few : count ≡ min r.blocks (length r.offsets)) where
  pub step_end : count ≤ block → {last : ℕ} → last ≡ block → stepped CueAnswer.ended (cursor last place base c.due) ≡ cue_step s r c
  unfolding cue_from
  step_end h e = rw (e, w.same, offsets_past r block (omega arith))

  module _ (l : block < count) where
    more : cue_step s r c ≡ cue_from s r c (offset_in r block ∷ offsets_from r (block + 1)) block place base c.due
    more = w.same ∙ ap (λ (os : List ℕ). cue_from s r c os block place base c.due) (offsets_next r block (omega arith))

    pub step_loop : c.due and loop_here r.loop_start block ≡ true → stepped (CueAnswer.loop base) (cursor block place base false) ≡ cue_step s r c
    step_loop e = sym (more ∙ at-loop s r c (offset_in r block) (offsets_from r (block + 1)) block place base c.due e)

    module _ (e : c.due and loop_here r.loop_start block ≡ false) where
      pub step_refused : {n : ℕ} → Read.refused n ≡ read_header s (offset_in r block) → stepped (CueAnswer.refused n) c ≡ cue_step s r c
      unfolding cue_from
      step_refused q = rw more (rw e (rw (← q)))

      pub step-here : {h : BlockHeader} → Read.value h ≡ read_header s (offset_in r block) → Here s r c block place base h
      step-here q = record { same = more; loop = e; header = q }

module _ {s : List ℕ} {r : HpsReader} {c : CueIterator} {block place base : ℕ} {h : BlockHeader} (w : Here s r c block place base h) where
  pub step-next : h.cues ≤ place → {b : ℕ} → b ≡ base_after r base (length_in h) → Stepping s r c (block + 1) 0 b
  step-next k u = rw u (record { same = w.same ∙ at_next s r c (offset_in r block) (offsets_from r (block + 1)) block place base c.due w.loop h (sym w.header) k })

  module _ (k : place < h.cues) {x : CueAnswer} (t : x ≡ point_read base (field s (offset_in r block + 32 + 8 * place + 8) (cue_at s (offset_in r block + 32 + 8 * place)))) where
    point_is : x ≡ point_of base (cue_at s (offset_in r block + 32 + 8 * place))
    point_is =
        let at = offset_in r block + 32 + 8 * place in
        t ∙ ap (point_read base) (field-inside s (at + 8) (cue_at s at) (cues-inside s (offset_in r block) place h w.header k))

    pub step-point : stepped x (cursor block (place + 1) base c.due) ≡ cue_step s r c
    step-point = rw point_is (sym (w.same ∙ at-point s r c (offset_in r block) (offsets_from r (block + 1)) block place base c.due w.loop h (sym w.header) k))

    -- a cue of a header that was read is not refused
    pub not_out : {n : ℕ} → x ≡ CueAnswer.refused n → ⊥
    not_out e = let q = point_is in cc

-- ---- The same of every record that has these parts

on_same : {A B : Type 0} (x : Read A) (f : ℕ → B) {g k : A → B} → ((a : A) → g a ≡ k a) → on x f g ≡ on x f k
on_same (Read.refused n) f e = refl
on_same (Read.value a) f e = e a

-- a record's parts make the same steps as the record
module _ (s : List ℕ) (r : HpsReader) (f : DspFormat) (c : CueIterator) (e : (channel_in r 0).format ≡ f) where
  abbrev parts : HpsReader
  parts = record_with r.offsets r.blocks r.loop_start f

  same_from : (d : Bool) (os : List ℕ) (i j b : ℕ) → cue_from s parts c os i j b d ≡ cue_from s r c os i j b d
  unfolding cue_from
  same_from d [] i j b = refl
  same_from d (o ∷ os) i j b =
      ap (pick (d and loop_here r.loop_start i) _)
      (on_same (read_header s o) (λ n. stepped (CueAnswer.refused n) c) (λ h. ap (pick (ltb j h.cues) _)
      (same_from d os (i + 1) 0 (base_after parts b (length_in h))
      ∙ ap (λ (x : DspFormat). cue_from s r c os (i + 1) 0 ((b + num_samples x (length_in h)) % 2 ^ 64) d) (sym e))))

  pub step_with : cue_step s parts c ≡ cue_step s r c
  unfolding cue_step
  step_with = same_from c.due (offsets_from r c.block) c.block c.place c.base

pub step_of_parts : (s os : List ℕ) (n : ℕ) (l : Option ℕ) (f : DspFormat) (c : CueIterator) {q : CueStep} → q ≡ cue_step s (record_with os n l f) c
    → (r : HpsReader) → PartsOf r os n l f → q ≡ cue_step s r c
step_of_parts s os n l f c e r p = (rw (← p.offsets, ← p.blocks, ← p.start) at e) ∙ step_with s r f c p.format
