-- The record that the bytes hold after an accepted cue is the record that the call gives.
use Rattle.std.specs.Prelude.{Option, Some, None}
use Prim.Native.Nat.{ℕ, zero, suc, ◌+◌, ◌-◌, ◌<◌, ◌≤◌}
use mathlib.Core.Path.{◌≡◌, refl, ap, sym, ◌∙◌}
use mathlib.Core.Bool.{Bool, true, false}
use mathlib.Core.List.{List, [], ◌++◌}
use native.Mathlib.Omega.{arith}
use borrow.Author.Tests.{le-leb, leb-true, leb-false, lt-ltb, eqb-true}
use lib.ListN.{length, take, drop, replicate}
use lib.Seq.{take_at, length-take-le, drop-append-add}
use lib.Dec.{leb, eqb}
use Rattle.layout.specs.Choice.{◌and◌}
use Rattle.layout.proofs.Cases.{by_cases, apart}
use Rattle.writer.specs.Loading.{has, insert, cue_refusal}
use Rattle.writer.specs.Calls.{no_cue, held, with_table, after_cue, cue_of, Good}
use Rattle.writer.proofs.DueLaws.{passed_cue}
use Rattle.writer.proofs.CueLaws.{insert-length}
use Rattle.writer.proofs.GoodLaws.{cue_kept_lem}
use Rattle.writer.specs.declared.Cue.{Cue}
use Rattle.writer.specs.declared.HpsWriter.{HpsWriter}
use Rattle.c_record.specs.Fields.{fields_of, writer_of}
use Rattle.c_record.specs.declared.Fields.{Fields}
use Rattle.c_record.specs.KeptSides.{cues_kept, table_in, cues_at, left_at, right_at, loader_size}
use Rattle.c_record.specs.KeptWriter.{fields_in, places_good, sums_good, marks_good, loops_within, sensible, stream_in, writer_in}
use Rattle.c_record.proofs.KeptLaws.{kept_good}
use Rattle.c_record_put.specs.KeptTable.{table_put, first_of}
use Rattle.c_record_put.proofs.SameLaws.{word_same, long_same, side_same}
use Rattle.c_record_put.proofs.TableLaws.{front_left, rest-left, count-back}
use Rattle.layout.specs.Refusals.{cue_limit}

-- ---- Bytes that hold a record

both_true : (a b : Bool) → a and b ≡ true → (a ≡ true) × (b ≡ true)
both_true true b h = (refl, h)
both_true false b h = apart (sym h)

pub record Holds (kept : List ℕ) : Type 0 where
  pub room : loader_size ≤ length kept
  pub is : stream_in kept ≡ fields_in kept

pub holds : (kept : List ℕ) → ((stream_in kept).setup.slot ≡ 0 → ⊥) → Holds kept
unfolding stream_in
holds kept h =
    by_cases (leb loader_size (length kept) and sensible (fields_in kept))
    (λ q. record { room = leb-true loader_size (length kept) (both_true (leb loader_size (length kept)) _ q).0; is = rw q })
    (λ q. absurd (h (rw q)))

-- sensible numbers are what a record in bytes needs
pub held-is : (kept : List ℕ) → loader_size ≤ length kept → sensible (fields_in kept) ≡ true → stream_in kept ≡ fields_in kept
unfolding stream_in
held-is kept h e = rw (le-leb loader_size (length kept) h, e)

-- ---- Its numbers can be those of a record

marks_good_lem : (n : ℕ) (l f : Bool) → (l ≡ true → 0 < n) → (f ≡ true → l ≡ true) → marks_good n l f ≡ true
unfolding marks_good
marks_good_lem n true f a b = lt-ltb 0 n (a refl)
marks_good_lem n false true a b = b refl
marks_good_lem n false false a b = refl

loops_good : (l : Option ℕ) (o : ℕ) → ((n : ℕ) → l ≡ Some n → n ≤ o) → loops_within l o ≡ true
loops_good None o h = refl
loops_good (Some n) o h = le-leb n o (h n refl)

pub good_sensible : (w : HpsWriter) → Good w → sensible (fields_of w) ≡ true
unfolding sensible places_good sums_good
good_sensible w g =
    rw (
      le-leb _ _ g.small,
      le-leb _ _ g.room,
      le-leb _ _ g.few,
      le-leb _ _ g.placed,
      le-leb w.stream.id (w.stream.next + 1) (omega (arith, g.named)),
      le-leb _ _ g.many,
      le-leb _ _ g.base,
      le-leb _ _ g.sums,
      le-leb _ _ g.counted,
      marks_good_lem w.stream.blocks w.stream.last w.finished g.some g.done,
      loops_good w.stream.loopat w.stream.offset g.looped,
    )

-- ---- A table has zeros after its cues

abbrev Tailed : (t : List Cue) (n : ℕ) → Type 0
Tailed t n = first_of t n ≡ t

cues-long : (s : List ℕ) (at n : ℕ) → length (cues_kept s at n) ≡ n
unfolding cues_kept
cues-long s at zero = refl
cues-long s at (suc n) = ap suc (cues-long s (at + 24) n)

read_tailed : (s : List ℕ) (at n : ℕ) → Tailed (table_in s at n) n
unfolding table_in first_of
read_tailed s at n = ap (λ (l : List Cue). l ++ replicate (cue_limit - n) no_cue) (take_at (cues_kept s at n) (replicate (cue_limit - n) no_cue) n (cues-long s at n))

insert_tailed : (t : List Cue) (n : ℕ) (c : Cue) → length t ≡ cue_limit → n < cue_limit → Tailed t n → Tailed (insert c (take n t) ++ drop (n + 1) t) (n + 1)
unfolding first_of
insert_tailed t n c len few e =
    let h : List Cue = take n t in
    let lh : length h ≡ n = length-take-le n t (omega arith) in
    let z : cue_limit - n ≡ suc (cue_limit - (n + 1)) = omega arith in
    let d : drop (n + 1) t ≡ replicate (cue_limit - (n + 1)) no_cue =
    ap (drop (n + 1)) (sym e)
    ∙ ap (λ (m : ℕ). drop (m + 1) (h ++ replicate (cue_limit - n) no_cue)) (sym lh)
    ∙ drop-append-add h (replicate (cue_limit - n) no_cue) 1
    ∙ ap (λ (m : ℕ). drop 1 (replicate m no_cue)) z in
    let li : length (insert c h) ≡ n + 1 = insert-length c h ∙ omega arith in
    rw d (ap (λ (l : List Cue). l ++ replicate (cue_limit - (n + 1)) no_cue) (take_at (insert c h) (replicate (cue_limit - (n + 1)) no_cue) (n + 1) li))

-- ---- After a cue

module _ (w : HpsWriter) (c : Cue) where
  -- the other numbers are left
  pub cue_stream : fields_of (cue_of w c).writer ≡ fields_of (with_table w w.table.cues (cue_of w c).writer.table.count)
  unfolding cue_of after_cue
  cue_stream =
      by_cases (eqb (cue_refusal w.stream.blocks (held w) c) 0) (λ q. rw q (by_cases (has c (held w)) (λ e. rw e) (λ e. rw e))) (λ q. rw q)

  pub cue_tailed : Good w → Tailed w.table.cues w.table.count → Tailed (cue_of w c).writer.table.cues (cue_of w c).writer.table.count
  unfolding cue_of after_cue
  cue_tailed g t =
      by_cases (eqb (cue_refusal w.stream.blocks (held w) c) 0)
      (λ q.
      let f = passed_cue _ _ _ (eqb-true (cue_refusal w.stream.blocks (held w) c) 0 q) in
      rw q (by_cases (has c (held w)) (λ e. rw e t)
      (λ e.
      let l = leb-false cue_limit (length (held w)) (rw e at f.no20) in
      let k = length-take-le w.table.count w.table.cues (omega (arith, g.few, g.table)) in
      rw e (insert_tailed w.table.cues w.table.count c g.table (omega arith) t))))
      (λ q. rw q t)

module _ (kept : List ℕ) (t : List Cue) (n : ℕ) (len : length t ≡ cue_limit) (few : n ≤ cue_limit) (room : loader_size ≤ length kept) where
  fields-after : fields_in (table_put kept t n) ≡ fields_of (with_table (writer_of t (fields_in kept)) t n)
  unfolding fields_in
  fields-after =
      let f = front_left kept t n (omega (arith, len, few)) few room in
      let r = rest-left kept t n (omega (arith, len, few)) few room in
      rw (
        long_same f 0 (omega arith) (omega arith),
        long_same f 8 (omega arith) (omega arith),
        count-back kept t n (omega (arith, len, few)) few room,
        long_same r 24 (omega arith) (omega arith),
        long_same r 32 (omega arith) (omega arith),
        long_same r 40 (omega arith) (omega arith),
        long_same r 48 (omega arith) (omega arith),
        long_same r 56 (omega arith) (omega arith),
        long_same r 64 (omega arith) (omega arith),
        word_same r 72 (omega arith) (omega arith),
        word_same r 76 (omega arith) (omega arith),
        word_same r 80 (omega arith) (omega arith),
        word_same r 84 (omega arith) (omega arith),
        side_same r left_at (omega arith) (omega arith),
        side_same r right_at (omega arith) (omega arith),
      )

-- bytes that hold a record: put into them is the table of the record that the call gives
pub cue-after : (kept : List ℕ) (c : Cue) (after : HpsWriter) (put : List ℕ) → ((stream_in kept).setup.slot ≡ 0 → ⊥) → after ≡ (cue_of (writer_in kept) c).writer
    → put ≡ table_put kept after.table.cues after.table.count → table_in put cues_at after.table.count ≡ first_of after.table.cues after.table.count
    → writer_in put ≡ (cue_of (writer_in kept) c).writer
cue-after kept c after put some e p b =
    let w = writer_in kept in
    let h = holds kept some in
    let g : Good after = rw e (cue_kept_lem w (kept_good kept) c) in
    let tailed : first_of after.table.cues after.table.count ≡ after.table.cues = rw e (cue_tailed w c (kept_good kept) (read_tailed kept cues_at (stream_in kept).count)) in
    let stream : fields_of after ≡ fields_of (with_table w w.table.cues after.table.count) = rw e (cue_stream w c) in
    let fields : fields_in put ≡ fields_of after =
    ap fields_in p
    ∙ fields-after kept after.table.cues after.table.count g.table g.few h.room
    ∙ ap (λ (s : Fields). fields_of (with_table (writer_of [] s) [] after.table.count)) (sym h.is)
    ∙ sym stream in
    let long : length put ≡ length kept = ap length p ∙ (front_left kept after.table.cues after.table.count (omega (arith, g.table, g.few)) g.few h.room).long in
    let room : loader_size ≤ length put = omega (arith, h.room) in
    let is : stream_in put ≡ fields_of after = held-is put room (ap sensible fields ∙ good_sensible after g) ∙ fields in
    rw is (ap (λ (t : List Cue). writer_of t (fields_of after)) (b ∙ tailed)) ∙ e
