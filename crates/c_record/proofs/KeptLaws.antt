-- The record that bytes stand for: its tests one by one, and the premise of the loading calls that follows from them.
use Rattle.std.specs.Prelude.{Option, Some, None}
use Prim.Native.Nat.{ℕ, ◌+◌, ◌<◌, ◌≤◌}
use mathlib.Core.Path.{◌≡◌, refl, sym, ap, ◌∙◌}
use mathlib.Core.Bool.{Bool, true, false}
use mathlib.Core.List.{List}
use native.Mathlib.Omega.{arith}
use borrow.Author.Tests.{eq-eqb, ne_eqb, le-leb, lt-leb, leb-true, ltb-true, eqb-false}
use lib.ListN.{length}
use lib.Dec.{leb, eqb}
use Rattle.layout.specs.Choice.{◌and◌}
use Rattle.layout.proofs.Cases.{by_cases, apart, and_true}
use Rattle.writer.specs.Calls.{blank, Good}
use Rattle.writer.specs.Push.{loop_from, loops_here}
use Rattle.writer.proofs.GoodLaws.{blank_good}
use Rattle.writer.specs.declared.Looping.{Looping}
use Rattle.std.proofs.Common.{Ok, Err}
use Rattle.c_opened.specs.declared.failure.Failure.TheVariants.{NoRecord}
use Rattle.c_record.specs.Fields.{fields_of, writer_of}
use Rattle.c_record.specs.declared.Fields.{Fields}
use Rattle.c_record.specs.KeptSides.{table_in, cues_kept, cues_at, loader_size}
use Rattle.c_record.proofs.ReadingLaws.{table-length}
use Rattle.c_record.specs.KeptWriter.{fields_in, places_good, sums_good, marks_good, loops_within, sensible, stream_in, writer_in, where_held, held_in}
use Rattle.layout.specs.Refusals.{cue_limit}

-- ---- The record without its table

module _ (kept : List ℕ) where
  pub too_short_lem : length kept < loader_size → (s : Fields) → s ≡ fields_of blank → s ≡ stream_in kept
  unfolding stream_in
  too_short_lem h s e = e ∙ rw (lt-leb loader_size (length kept) h)

  module _ (h : loader_size ≤ length kept) (f : Fields) (fields : f ≡ fields_in kept) (b : Bool) (is : b ≡ sensible f) where
    pub holds_record : b ≡ true → f ≡ stream_in kept
    unfolding stream_in
    holds_record e = fields ∙ rw (le-leb loader_size (length kept) h, ap sensible (sym fields) ∙ sym is ∙ e)

    pub holds-none : b ≡ false → (s : Fields) → s ≡ fields_of blank → s ≡ stream_in kept
    unfolding stream_in
    holds-none e s es = es ∙ rw (le-leb loader_size (length kept) h, ap sensible (sym fields) ∙ sym is ∙ e)

-- the same of what is given where the bytes hold one of a slot that has bytes
module _ (kept : List ℕ) where
  pub none_short : length kept < loader_size → Err NoRecord ≡ where_held (stream_in kept) (stream_in kept)
  unfolding stream_in
  none_short h = rw (lt-leb loader_size (length kept) h)

  module _ (h : loader_size ≤ length kept) (f : Fields) (fields : f ≡ fields_in kept) where
    pub held_there : 0 < f.setup.slot → true ≡ sensible f → Ok f ≡ where_held (stream_in kept) (stream_in kept)
    unfolding stream_in
    held_there some is =
        rw (le-leb loader_size (length kept) h, ← fields, ← is, ne_eqb f.setup.slot 0 (λ z. omega arith))

    pub none_there : f.setup.slot ≡ 0 → Err NoRecord ≡ where_held (stream_in kept) (stream_in kept)
    unfolding stream_in
    none_there z =
        rw (le-leb loader_size (length kept) h, ← fields)
        (by_cases (sensible f) (λ t. rw (t, eq-eqb f.setup.slot 0 z)) (λ t. rw t))

    pub none_sensible : false ≡ sensible f → Err NoRecord ≡ where_held (stream_in kept) (stream_in kept)
    unfolding stream_in
    none_sensible is = rw (le-leb loader_size (length kept) h, ← fields, ← is)

-- what is given is this, of a record of a slot that has bytes
pub held_gives : {A : Type 0} (f : Fields) (x y : A) → Ok y ≡ where_held f x → (y ≡ x) × (f.setup.slot ≡ 0 → ⊥)
held_gives f x y e =
    by_cases (eqb f.setup.slot 0)
    (λ t. let z : Ok y ≡ Err NoRecord = rw t at e in cc)
    (λ t. let z : Ok y ≡ Ok x = rw t at e in (cc, eqb-false f.setup.slot 0 t))

-- ---- The premise of the loading calls

marked-last : (n : ℕ) (l f : Bool) → marks_good n l f ≡ true → (l ≡ true → 0 < n) × (f ≡ true → l ≡ true)
unfolding marks_good
marked-last n true f h = (λ e. ltb-true 0 n h, λ e. refl)
marked-last n false true h = (λ e. apart (sym e), λ e. h)
marked-last n false false h = (λ e. apart (sym e), λ e. apart (sym e))

within-is : (l : Option ℕ) (o : ℕ) → loops_within l o ≡ true → (n : ℕ) → l ≡ Some n → n ≤ o
within-is l o h n e = leb-true n o (rw e at h)

sensible_good : (s : Fields) (kept : List ℕ) → sensible s ≡ true → Good (writer_of (table_in kept cues_at s.count) s)
unfolding sensible places_good sums_good
sensible_good s kept h =
    let h₁ = and_true _ _ h in
    let p₁ = and_true _ _ h₁.0 in
    let p₂ = and_true _ _ p₁.1 in
    let p₃ = and_true _ _ p₂.1 in
    let p₄ = and_true _ _ p₃.1 in
    let h₂ = and_true _ _ h₁.1 in
    let q₁ = and_true _ _ h₂.0 in
    let q₂ = and_true _ _ q₁.1 in
    let q₃ = and_true _ _ q₂.1 in
    let h₃ = and_true _ _ h₂.1 in
    let m = marked-last s.stream.blocks s.stream.last s.finished h₃.0 in
    record {
      small = leb-true _ _ p₁.0;
      table = table-length kept cues_at s.count (leb-true _ _ p₃.0);
      few = leb-true _ _ p₃.0;
      placed = leb-true _ _ p₄.0;
      named = omega (arith, leb-true s.stream.id (s.stream.next + 1) p₄.1);
      room = leb-true _ _ p₂.0;
      many = leb-true _ _ q₁.0;
      base = leb-true _ _ q₂.0;
      sums = leb-true _ _ q₃.0;
      counted = leb-true _ _ q₃.1;
      looped = within-is s.stream.loopat s.stream.offset h₃.1;
      some = m.0;
      done = m.1;
    }

blank_kept : (kept : List ℕ) → Good (writer_of (table_in kept cues_at 0) (fields_of blank))
unfolding table_in cues_kept
blank_kept kept = blank_good

-- The record that bytes stand for meets it, whatever they are.
pub kept_good : (kept : List ℕ) → Good (writer_in kept)
unfolding stream_in
kept_good kept =
    by_cases (leb loader_size (length kept) and sensible (fields_in kept))
    (λ q. rw q (sensible_good (fields_in kept) kept (and_true (leb loader_size (length kept)) (sensible (fields_in kept)) q).1))
    (λ q. rw q (blank_kept kept))

pub stream_few : (kept : List ℕ) → (stream_in kept).count ≤ cue_limit
stream_few kept = (kept_good kept).few

-- ---- The table

-- where it does not count it changes no loop block
pub loop-same : (m : Looping) (l : Option ℕ) (offset : ℕ) (b asked : Bool) (end : ℕ) (last : Bool)
    → loop_from l offset (loops_here m (held_in m l b) asked end last) ≡ loop_from l offset (loops_here m b asked end last)
unfolding loops_here held_in
loop-same m (Some n) offset b asked end last = refl
loop-same Looping.Disabled None offset b asked end last = refl
loop-same Looping.Enabled None offset b asked end last = refl
loop-same Looping.Auto None offset b asked end last = refl
