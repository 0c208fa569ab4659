-- The opening record read from lent bytes: loop start, offsets one after the other, and the record that the reads come to.
use Rattle.std.proofs.Common.{Option, Some, None, Ok, Err}
use Prim.Native.Nat.{ℕ, zero, suc, ◌+◌, ◌*◌, ◌%◌, ◌≤◌, ◌<◌, min}
use mathlib.Core.Path.{◌≡◌, refl, sym, ap, ◌∙◌}
use mathlib.Core.Logic.{◌⊎◌, inl, inr, ⊎_elim}
use mathlib.Core.List.{List, [], ◌∷◌}
use native.Mathlib.Omega.{arith}
use native.Mathlib.Nat.{le_of_suc-le-suc}
use lib.ListN.{length, get_or, set, replicate, length-set}
use lib.Seq.{get_or-set_same, get_or-set_other, ext_get_or}
use lib.Dec.{ltb, leb, eqb}
use borrow.Author.Tests.{eq-eqb, ne_eqb, eqb-true, eqb-false, lt-ltb, le-ltb, le-leb, leb-true, ltb-true, ltb-false}
use Rattle.layout.specs.Choice.{pick, ◌and◌}
use Rattle.layout.specs.Records.{u32_at, Read, on, read_channel, file_header_size}
use Rattle.layout.specs.declared.Channel.{Channel}
use Rattle.layout.proofs.Cases.{by_cases}
use Rattle.reader.specs.OpeningAndReading.{Readable}
use Rattle.reader.specs.ReaderAnswers.{no_reader}
use Rattle.reader.specs.declared.HpsReader.{HpsReader}
use Rattle.layout_number_or_zero.specs.NumberOrZero.{word_at}
use Rattle.layout_number_or_zero.proofs.NumberLaws.{word_in}
use Rattle.c_opened.specs.declared.failure.Failure.{Failure}
use Rattle.c_opened.specs.declared.failure.Failure.TheVariants.{NoRecord}
use Rattle.c_opened.specs.KeptReader.{loop_number, loop_of, lesser, offsets_in, part_in, where_opened, opened_size, offsets_at}
use Rattle.layout.specs.Refusals.{block_limit}
use Rattle.layout.proofs.ListLaws.{zeros_at}

-- ---- Loop start and lesser number

pub no_loop_lem : (n : ℕ) → n ≡ 4294967295 → None ≡ loop_of n
no_loop_lem n h = rw (eq-eqb n 4294967295 h)

pub a_loop : (n : ℕ) → (n ≡ 4294967295 → ⊥) → Some n ≡ loop_of n
a_loop n h = rw (ne_eqb n 4294967295 h)

pub loop-number : (l : Option ℕ) (i : ℕ) → l ≡ Some i → i % 4294967296 ≡ loop_number l
loop-number l i e = rw e

pub second-lesser : (a b : ℕ) → b ≤ a → b ≡ lesser a b
second-lesser a b h = rw (le-ltb a b h)

pub lesser_is : (a b : ℕ) → min a b ≡ lesser a b
lesser_is a b =
    by_cases (ltb a b)
    (λ t. let h = ltb-true a b t in rw t (omega arith))
    (λ t. let h = ltb-false a b t in rw t (omega arith))

-- ---- Offsets

module _ (kept : List ℕ) (from to : ℕ) where
  pub offsets_long : (n i : ℕ) → length (offsets_in kept from to n i) ≡ n
  unfolding offsets_in
  offsets_long zero i = refl
  offsets_long (suc n) i = ap suc (offsets_long n (i + 1))

  pub offset_at_lem : (n i k : ℕ) → k < n → get_or (offsets_in kept from to n i) k 0 ≡ pick (leb from (i + k) and ltb (i + k) to) (u32_at kept (offsets_at + 4 * (i + k))) 0
  unfolding offsets_in
  offset_at_lem zero i k h = absurd (omega arith)
  offset_at_lem (suc n) i zero h = let e : i + zero ≡ i = omega arith in rw e
  offset_at_lem (suc n) i (suc k) h =
      let e : i + 1 + k ≡ i + suc k = omega arith in
      rw (← e) (offset_at_lem n (i + 1) k (le_of_suc-le-suc h))

  pub first_offset : (n k : ℕ) → k < n → get_or (offsets_in kept from to n 0) k 0 ≡ pick (leb from k and ltb k to) (u32_at kept (offsets_at + 4 * k)) 0
  first_offset n k h = let e : 0 + k ≡ k = omega arith in rw e at (offset_at_lem n 0 k h)

-- of 512 offsets those from one block to the one before i are read
pub record OffsetsRead (kept : List ℕ) (from to : ℕ) (os : List ℕ) (i : ℕ) : Type 0 where
  pub long : length os ≡ block_limit
  pub low : from ≤ i
  pub high : (i ≡ from) ⊎ (i ≤ to)
  pub each : (k : ℕ) → k < block_limit → get_or os k 0 ≡ pick (leb from k and ltb k i) (u32_at kept (offsets_at + 4 * k)) 0

module _ {kept : List ℕ} {from to : ℕ} where
  pub offsets_unread : OffsetsRead kept from to (replicate block_limit 0) from
  offsets_unread =
      record {
        long = refl;
        low = omega arith;
        high = inl refl;
        each = λ k h. zeros_at block_limit k ∙ by_cases (leb from k) (λ t. rw (t, le-ltb k from (leb-true from k t))) (λ t. rw t);
      }

  module _ {os : List ℕ} {i : ℕ} (p : OffsetsRead kept from to os i) where
    pub offsets_next : {x : ℕ} → i < to → to ≤ block_limit → opened_size ≤ length kept → x ≡ word_at kept (offsets_at + 4 * i) → OffsetsRead kept from to (set os i x) (i + 1)
    offsets_next {x} h m g e =
        let l = p.long in
        let w = p.low in
        let is : x ≡ u32_at kept (offsets_at + 4 * i) = e ∙ word_in kept (offsets_at + 4 * i) (omega arith) in
        record {
          long = length-set os i x ∙ l;
          low = omega arith;
          high = inr (omega arith);
          each = λ k b.
              by_cases (eqb k i)
              (λ t.
              let q : k ≡ i = eqb-true k i t in
              rw (q, le-leb from i w, lt-ltb i (i + 1) (omega arith), get_or-set_same os i x 0 (omega arith)) is)
              (λ t.
              let q = eqb-false k i t in
              get_or-set_other os i k x 0 q ∙ p.each k b
              ∙ by_cases (ltb k i)
              (λ u. let v = ltb-true k i u in rw (u, lt-ltb k (i + 1) (omega arith)))
              (λ u. let v = ltb-false k i u in rw (u, le-ltb k (i + 1) (past k v q))));
        }
      where
        past : (k : ℕ) → i ≤ k → (k ≡ i → ⊥) → i + 1 ≤ k
        past k v q = omega arith

    pub offsets_read : to ≤ i → os ≡ offsets_in kept from to block_limit 0
    offsets_read h =
        ext_get_or 0 os (offsets_in kept from to block_limit 0) (p.long ∙ sym (offsets_long kept from to block_limit 0))
        (λ k b.
        let l = p.long in
        let m : k < block_limit = omega arith in
        p.each k m ∙ same k ∙ sym (first_offset kept from to block_limit k m))
      where
        same : (k : ℕ) → pick (leb from k and ltb k i) (u32_at kept (offsets_at + 4 * k)) 0 ≡ pick (leb from k and ltb k to) (u32_at kept (offsets_at + 4 * k)) 0
        same k =
            by_cases (leb from k)
            (λ t.
            let a = leb-true from k t in
            ⊎_elim
            (λ z. rw (t, le-ltb k i (omega arith), le-ltb k to (omega arith)))
            (λ z. let q : i ≡ to = omega arith in rw q)
            p.high)
            (λ t. rw t)

-- ---- The record

same_record : (q : HpsReader) {rate count blocks : ℕ} {cs : List Channel} {os : List ℕ} {start : Option ℕ} → q.rate ≡ rate → q.count ≡ count → q.channels ≡ cs → q.blocks ≡ blocks
    → q.offsets ≡ os
    → q.loop_start ≡ start → q ≡ record { rate = rate; count = count; channels = cs; blocks = blocks; offsets = os; loop_start = start }
same_record q e1 e2 e3 e4 e5 e6 = rw (← e1, ← e2, ← e3, ← e4, ← e5, ← e6)

module _ (kept : List ℕ) (from to : ℕ) where
  -- what two channel reads come to, where counts are within their limits
  abbrev at_channels : Read Channel → Read Channel → HpsReader
  at_channels a b =
      on a (λ n. no_reader) (λ l.
      on b (λ n. no_reader) (λ r.
      record {
        rate = u32_at kept 8;
        count = u32_at kept 12;
        channels = l ∷ r ∷ [];
        blocks = u32_at kept file_header_size;
        offsets = offsets_in kept from (lesser to (u32_at kept file_header_size)) block_limit 0;
        loop_start = loop_of (u32_at kept 132);
      }))

  pub too_few : length kept < opened_size → no_reader ≡ part_in kept from to
  unfolding part_in
  too_few h = rw (lt-ltb (length kept) opened_size h)

  module _ (h : opened_size ≤ length kept) {count : ℕ} (c : count ≡ word_at kept 12) where
    count-is : count ≡ u32_at kept 12
    count-is = c ∙ word_in kept 12 (omega arith)

    pub many-channels : 2 < count → no_reader ≡ part_in kept from to
    unfolding part_in
    many-channels g = let k = rw count-is at g in rw (le-ltb (length kept) opened_size h, lt-ltb 2 (u32_at kept 12) k)

    module _ (few : count ≤ 2) {blocks : ℕ} (n : blocks ≡ word_at kept file_header_size) where
      blocks_are : blocks ≡ u32_at kept file_header_size
      blocks_are = n ∙ word_in kept file_header_size (omega arith)

      pub many_blocks : block_limit < blocks → no_reader ≡ part_in kept from to
      unfolding part_in
      many_blocks g =
          let k = rw blocks_are at g in
          let l = rw count-is at few in
          rw (le-ltb (length kept) opened_size h, le-ltb 2 (u32_at kept 12) l, lt-ltb block_limit (u32_at kept file_header_size) k)

      module _ (b : blocks ≤ block_limit) where
        within : part_in kept from to ≡ at_channels (read_channel kept 16) (read_channel kept 72)
        unfolding part_in
        within =
            let k = rw blocks_are at b in
            let l = rw count-is at few in
            rw (le-ltb (length kept) opened_size h, le-ltb 2 (u32_at kept 12) l, le-ltb block_limit (u32_at kept file_header_size) k)

        pub no_left : {m : ℕ} → read_channel kept 16 ≡ Read.refused m → no_reader ≡ part_in kept from to
        no_left e = sym (within ∙ rw e)

        pub no_right : {left : Channel} {m : ℕ} → read_channel kept 16 ≡ Read.value left → read_channel kept 72 ≡ Read.refused m → no_reader ≡ part_in kept from to
        no_right e f = sym (within ∙ rw (e, f))

        pub part-made : {left right : Channel} {q : HpsReader} {last number : ℕ} → read_channel kept 16 ≡ Read.value left → read_channel kept 72 ≡ Read.value right
            → q.rate ≡ word_at kept 8 → q.count ≡ count → q.channels ≡ left ∷ right ∷ [] → q.blocks ≡ blocks → last ≡ lesser to blocks
            → q.offsets ≡ offsets_in kept from last block_limit 0 → number ≡ word_at kept 132 → q.loop_start ≡ loop_of number → q ≡ part_in kept from to
        part-made {left} {right} {q} e f e1 e2 e3 e4 m e5 l e6 =
            let w1 = e1 ∙ word_in kept 8 (omega arith) in
            let w5 = e5 ∙ ap (λ (k : ℕ). offsets_in kept from k block_limit 0) (m ∙ ap (lesser to) blocks_are) in
            let w6 = e6 ∙ ap loop_of (l ∙ word_in kept 132 (omega arith)) in
            same_record q w1 (e2 ∙ count-is) e3 (e4 ∙ blocks_are) w5 w6 ∙ sym (within ∙ rw (e, f))

-- what holds of the record that bytes stand for, whatever they are
pub record Shape (r : HpsReader) : Type 0 where
  pub readable : Readable r
  pub channels : length r.channels ≡ 2
  pub offsets : length r.offsets ≡ block_limit

no_shape : Shape no_reader
no_shape = record { readable = record { channels = omega arith; blocks = omega arith }; channels = refl; offsets = refl }

module _ (kept : List ℕ) (from to : ℕ) where
  channels_shape : (a b : Read Channel) → u32_at kept 12 ≤ 2 → u32_at kept file_header_size ≤ block_limit → Shape (at_channels kept from to a b)
  channels_shape (Read.refused n) b h g = no_shape
  channels_shape (Read.value l) (Read.refused n) h g = no_shape
  channels_shape (Read.value l) (Read.value r) h g =
      record { readable = record { channels = h; blocks = g }; channels = refl; offsets = offsets_long kept from (lesser to (u32_at kept file_header_size)) block_limit 0 }

  pub part_shape : Shape (part_in kept from to)
  unfolding part_in
  part_shape =
      by_cases (ltb (length kept) opened_size) (λ t. rw t no_shape) (λ t.
      by_cases (ltb 2 (u32_at kept 12)) (λ u. rw (t, u) no_shape) (λ u.
      by_cases (ltb block_limit (u32_at kept file_header_size)) (λ v. rw (t, u, v) no_shape) (λ v.
      rw (t, u, v) (channels_shape (read_channel kept 16) (read_channel kept 72) (ltb-false 2 (u32_at kept 12) u) (ltb-false block_limit (u32_at kept file_header_size) v)))))

-- ---- The record where the bytes hold one

module _ (kept : List ℕ) (from to : ℕ) where
  pub none_held : no_reader ≡ part_in kept from to → Err NoRecord ≡ where_opened (part_in kept from to)
  none_held e = rw (← e)

  pub record_held : (q : HpsReader) → (q.count ≡ 0 → ⊥) → q ≡ part_in kept from to → Ok q ≡ where_opened (part_in kept from to)
  record_held q some e = rw (← e, ne_eqb q.count 0 some)

  no_count : (a b : Read Channel) → u32_at kept 12 ≡ 0 → (at_channels kept from to a b).count ≡ 0
  no_count (Read.refused n) b z = refl
  no_count (Read.value l) (Read.refused n) z = refl
  no_count (Read.value l) (Read.value r) z = z

  part_none : u32_at kept 12 ≡ 0 → (part_in kept from to).count ≡ 0
  unfolding part_in
  part_none z =
      by_cases (ltb (length kept) opened_size) (λ t. rw t) (λ t.
      by_cases (ltb 2 (u32_at kept 12)) (λ u. rw (t, u)) (λ u.
      by_cases (ltb block_limit (u32_at kept file_header_size)) (λ v. rw (t, u, v)) (λ v.
      rw (t, u, v) (no_count (read_channel kept 16) (read_channel kept 72) z))))

  pub none_counted : {count : ℕ} → opened_size ≤ length kept → count ≡ word_at kept 12 → count ≡ 0 → Err NoRecord ≡ where_opened (part_in kept from to)
  none_counted h c z = rw (eq-eqb (part_in kept from to).count 0 (part_none (sym (c ∙ word_in kept 12 (omega arith)) ∙ z)))

-- what is given is the record that the bytes stand for, and where nothing is given it is of no channel
pub opened_gives : (x r : HpsReader) → Ok r ≡ where_opened x → (r ≡ x) × (r.count ≡ 0 → ⊥)
opened_gives x r e =
    by_cases (eqb x.count 0)
    (λ t. let z : Ok r ≡ Err NoRecord = rw t at e in cc)
    (λ t. let z : Ok r ≡ Ok x = rw t at e in let y : r ≡ x = cc in (y, rw y (eqb-false x.count 0 t)))

pub opened_none : (x : HpsReader) (n : Failure) → Err n ≡ where_opened x → (n ≡ NoRecord) × (x.count ≡ 0)
opened_none x n e =
    by_cases (eqb x.count 0)
    (λ t. let z : Err n ≡ Err NoRecord = rw t at e in (cc, eqb-true x.count 0 t))
    (λ t. let z : Err n ≡ Ok x = rw t at e in cc)
