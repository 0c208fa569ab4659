-- Cue calls on lent bytes, from what the functions below them return.
use Prim.Native.Nat.{ℕ, ◌/◌, ◌≤◌, ◌<◌}
use mathlib.Core.Path.{◌≡◌, refl, sym, ap, ◌∙◌}
use mathlib.Core.Bool.{true, false}
use mathlib.Core.List.{List}
use native.Mathlib.Omega.{arith}
use lib.ListN.{length}
use lib.Dec.{eqb}
use borrow.Author.Tests.{lt-ltb, le-ltb, eq-eqb, ne_eqb, eqb-true}
use Rattle.layout.specs.Puts.{put_at}
use Rattle.layout.specs.declared.DspFormat.{DspFormat}
use Rattle.layout.proofs.Cases.{by_cases, apart}
use Rattle.layout.proofs.PutLaws.{put_at-none}
use Rattle.reader.specs.declared.HpsReader.{HpsReader}
use Rattle.reader.specs.declared.CueIterator.{CueIterator}
use Rattle.reader.specs.OpeningAndReading.{channel_in}
use Rattle.reader_cues.specs.CueAnswers.{PartsOf}
use Rattle.c_opened.specs.KeptReader.{reader_in}
use Rattle.c_opened.proofs.KeptReads.{part_shape}
use Rattle.c_cues.specs.KeptCues.{cursor_in, cursor_bytes, put_cursor, CuesGiven, cues_given, given_of, CuesCounted, CuesLent, cues_on, number_after, cues_number, gives_cues, cues_lent}
use Rattle.c_cues.proofs.CursorLaws.{cursor-put}
use Rattle.c_cues.proofs.FillLaws.{none-given}
use Rattle.layout.specs.Refusals.{block_limit}

-- the parts of a record that bytes hold
module _ (kept : List ℕ) (r : HpsReader) (e : r ≡ reader_in kept) where
  pub table-long : r.blocks ≤ length r.offsets
  table-long = let s = part_shape kept 0 block_limit in rw e (omega (arith, s.offsets, s.readable.blocks))

  pub two-channels : length r.channels ≡ 2
  two-channels = rw e (part_shape kept 0 block_limit).channels

  pub parts : (f : DspFormat) → (channel_in r 0).format ≡ f → PartsOf r r.offsets r.blocks r.loop_start f
  parts f h =
      let s = part_shape kept 0 block_limit in
      record { readable = rw e s.readable; two = rw e s.channels; table = rw e s.offsets; offsets = refl; blocks = refl; start = refl; format = h }

-- ---- Their number

-- after cues all but the end is left to the next call
pub left_to_next : (k n : ℕ) → (k ≡ 0 → ⊥) → gives_cues n ≡ false → 0 ≡ number_after k n
unfolding number_after
left_to_next k n h g = by_cases (eqb n 255) (λ t. by_cases (eqb n 0) (λ u. apart (rw u at g)) (λ u. apart (rw (u, t) at g))) (λ t. rw (ne_eqb k 0 h, t))

pub first_told : (k n : ℕ) → k ≤ 0 → n ≡ number_after k n
unfolding number_after
first_told k n h = rw (eq-eqb k 0 (omega arith))

pub given-told : (k n : ℕ) → gives_cues n ≡ true → n ≡ number_after k n
unfolding number_after
given-told k n g =
    by_cases (eqb k 0) (λ t. rw t)
    (λ t.
    by_cases (eqb n 255) (λ u. rw (t, u) (eqb-true n 255 u))
    (λ u. by_cases (eqb n 0) (λ v. rw (t, u) (eqb-true n 0 v)) (λ v. apart (sym (rw (v, u) at g)))))

-- a refusal is told only where it comes first
told_first : (k n : ℕ) → gives_cues (number_after k n) ≡ false → k ≡ 0
unfolding number_after
told_first k n h =
    by_cases (eqb k 0) (λ t. eqb-true k 0 t)
    (λ t. by_cases (eqb n 255) (λ u. apart (rw (t, u) at h)) (λ u. apart (rw (t, u) at h)))

-- ---- What is lent

module _ (s kept : List ℕ) (b : CuesLent) where
  abbrev Given : (n : ℕ) → CuesLent → Type 0
  Given n after = (n ≡ cues_number s kept b) × (after ≡ cues_lent s kept b)

  leaves : (n : ℕ) → n ≡ cues_number s kept b → gives_cues n ≡ false → Given n b
  unfolding cues_lent
  leaves n e t = let u : gives_cues (cues_number s kept b) ≡ false = ap gives_cues (sym e) ∙ t in (e, rw u)

  gives : (n : ℕ) → n ≡ cues_number s kept b → gives_cues n ≡ true
      → Given n (record { cursor = put_at b.cursor 0 (cursor_bytes (cues_on s kept b).after); out = put_at b.out 0 (cues_on s kept b).bytes; cues = (cues_on s kept b).count })
  unfolding cues_lent
  gives n e t = let u : gives_cues (cues_number s kept b) ≡ true = ap gives_cues (sym e) ∙ t in (e, rw u)

  pub short_cursor : length b.cursor < 32 → Given 252 b
  unfolding cues_number
  short_cursor h = leaves 252 (rw (lt-ltb (length b.cursor) 32 h)) refl

  module _ (h : 32 ≤ length b.cursor) (r : HpsReader) (e : r ≡ reader_in kept) where
    pub no_record : r.count ≡ 0 → Given 254 b
    unfolding cues_number
    no_record z =
        leaves 254 (rw (le-ltb (length b.cursor) 32 h, eq-eqb (reader_in kept).count 0 (sym (ap (λ (x : HpsReader). x.count) e) ∙ z))) refl

    module _ (some : r.count ≡ 0 → ⊥) where
      record_there : eqb (reader_in kept).count 0 ≡ false
      record_there = ne_eqb (reader_in kept).count 0 (λ z. some (ap (λ (y : HpsReader). y.count) e ∙ z))

      pub no_room : length b.out < 16 → Given 14 b
      unfolding cues_number
      no_room o = leaves 14 (rw (le-ltb (length b.cursor) 32 h, record_there, lt-ltb (length b.out) 16 o)) refl

      module _ (room : 16 ≤ length b.out) (c : CueIterator) (f : c ≡ cursor_in r b.cursor) (x : CuesCounted) (g : x ≡ given_of (cues_given s r (length b.out / 16) c)) {out : List ℕ}
          (i : out ≡ put_at b.out 0 (cues_given s r (length b.out / 16) c).bytes) {n : ℕ} (k : n ≡ number_after x.cues x.number) where
        calls : cues_given s r (length b.out / 16) c ≡ cues_on s kept b
        unfolding cues_on
        calls = ap (cues_given s r (length b.out / 16)) f ∙ ap (λ (x : HpsReader). cues_given s x (length b.out / 16) (cursor_in x b.cursor)) e

        is : x ≡ given_of (cues_on s kept b)
        is = g ∙ ap given_of calls

        number : n ≡ cues_number s kept b
        unfolding cues_number
        number =
            rw (le-ltb (length b.cursor) 32 h, record_there, le-ltb (length b.out) 16 room)
            (k ∙ ap (λ (y : CuesCounted). number_after y.cues y.number) is)

        pub left : gives_cues n ≡ false → Given n (record { cursor = b.cursor; out = out; cues = b.cues })
        left t =
            let z : (cues_given s r (length b.out / 16) c).count ≡ 0 = sym (ap (λ (y : CuesCounted). y.cues) g) ∙ told_first x.cues x.number (ap gives_cues (sym k) ∙ t) in
            let o : out ≡ b.out = i ∙ ap (put_at b.out 0) (none-given s r (length b.out / 16) c z) ∙ put_at-none b.out 0 in
            rw o (leaves n number t)

        pub gave : {cur : List ℕ} → cur ≡ put_cursor b.cursor x.cursor → gives_cues n ≡ true → Given n (record { cursor = cur; out = out; cues = x.cues })
        gave {cur} j t =
            let o : out ≡ put_at b.out 0 (cues_on s kept b).bytes = i ∙ ap (λ (y : CuesGiven). put_at b.out 0 y.bytes) calls in
            let l : cur ≡ put_at b.cursor 0 (cursor_bytes (cues_on s kept b).after) =
            j ∙ cursor-put b.cursor x.cursor (omega arith) ∙ ap (λ (y : CuesCounted). put_at b.cursor 0 (cursor_bytes y.cursor)) is in
            rw (o, l, ap (λ (y : CuesCounted). y.cues) is) (gives n number t)
