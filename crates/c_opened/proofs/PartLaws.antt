-- A record read with a part of its offsets serves a call that needs no others as the whole record does.
use Prim.Native.Nat.{ℕ, ◌+◌, ◌*◌, ◌≤◌, ◌<◌}
use mathlib.Core.Path.{◌≡◌, refl, sym, ◌∙◌}
use mathlib.Core.List.{List, [], ◌∷◌}
use native.Mathlib.Omega.{arith}
use lib.ListN.{length, take, get_or, length-take, length-drop}
use lib.Seq.{get_or-take, get_or-drop, ext_get_or}
use lib.Dec.{ltb, leb}
use borrow.Author.Tests.{le-leb, lt-ltb, leb-false, ltb-false}
use Rattle.layout.specs.Records.{u32_at, Read, read_channel, file_header_size}
use Rattle.layout.specs.declared.Channel.{Channel}
use Rattle.layout.proofs.Cases.{by_cases}
use Rattle.reader.specs.OpeningAndReading.{offset_in, offsets_from, block_read, data_remaining}
use Rattle.reader.specs.ReaderAnswers.{no_reader}
use Rattle.reader.specs.declared.HpsReader.{HpsReader}
use Rattle.c_opened.specs.KeptReader.{loop_of, lesser, offsets_in, part_in, reader_in, opened_size, offsets_at}
use Rattle.c_opened.proofs.KeptReads.{offsets_long, first_offset}
use Rattle.layout.specs.Refusals.{block_limit}

-- a record of bytes that hold one
abbrev made : List ℕ → Channel → Channel → (from to : ℕ) → HpsReader
made kept l r from to =
    record {
      rate = u32_at kept 8;
      count = u32_at kept 12;
      channels = l ∷ r ∷ [];
      blocks = u32_at kept file_header_size;
      offsets = offsets_in kept from (lesser to (u32_at kept file_header_size)) block_limit 0;
      loop_start = loop_of (u32_at kept 132);
    }

-- bytes hold no record or one, whichever part of it is asked for
part_cases : {A : Type 0} (kept : List ℕ) → (((from to : ℕ) → part_in kept from to ≡ no_reader) → A)
    → ((l r : Channel) → u32_at kept file_header_size ≤ block_limit → ((from to : ℕ) → part_in kept from to ≡ made kept l r from to) → A) → A
unfolding part_in
part_cases {A} kept f g =
    by_cases (ltb (length kept) opened_size) (λ t. f (λ from to. rw t)) (λ t.
    by_cases (ltb 2 (u32_at kept 12)) (λ u. f (λ from to. rw (t, u))) (λ u.
    by_cases (ltb block_limit (u32_at kept file_header_size)) (λ v. f (λ from to. rw (t, u, v))) (λ v.
    channels (read_channel kept 16) (read_channel kept 72)
    (λ m e. f (λ from to. rw (t, u, v, e)))
    (λ l m e q. f (λ from to. rw (t, u, v, e, q)))
    (λ l r e q. g l r (ltb-false block_limit (u32_at kept file_header_size) v) (λ from to. rw (t, u, v, e, q))))))
  where
    channels : (a b : Read Channel) → ((m : ℕ) → a ≡ Read.refused m → A) → ((l : Channel) (m : ℕ) → a ≡ Read.value l → b ≡ Read.refused m → A)
        → ((l r : Channel) → a ≡ Read.value l → b ≡ Read.value r → A) → A
    channels (Read.refused m) b f g h = f m refl
    channels (Read.value l) (Read.refused m) f g h = g l m refl refl
    channels (Read.value l) (Read.value r) f g h = h l r refl refl

-- what a part has of the whole
record Part (r q : HpsReader) (from to : ℕ) : Type 0 where
  rate : r.rate ≡ q.rate
  count : r.count ≡ q.count
  channels : r.channels ≡ q.channels
  blocks : r.blocks ≡ q.blocks
  few : q.blocks ≤ block_limit
  long : length r.offsets ≡ length q.offsets
  offset : (i : ℕ) → from ≤ i → i < to → i < q.blocks → offset_in r i ≡ offset_in q i

in_lesser : (i a b : ℕ) → i < a → i < b → i < lesser a b
in_lesser i a b h g = by_cases (ltb a b) (λ t. rw t h) (λ t. rw t g)

offset_is : (kept : List ℕ) (from to n i : ℕ) → n ≤ block_limit → from ≤ i → i < to → i < n → get_or (offsets_in kept from (lesser to n) block_limit 0) i 0 ≡ u32_at kept (offsets_at + 4 * i)
offset_is kept from to n i m f h g =
    first_offset kept from (lesser to n) block_limit i (omega arith) ∙ rw (le-leb from i f, lt-ltb i (lesser to n) (in_lesser i to n h g))

part_of : (kept : List ℕ) (from to : ℕ) → Part (part_in kept from to) (reader_in kept) from to
part_of kept from to =
    part_cases kept
    (λ e. rw (e from to, e 0 block_limit) (record { rate = refl; count = refl; channels = refl; blocks = refl; few = omega arith; long = refl; offset = λ i a b c. refl }))
    (λ l r m e.
    rw (e from to, e 0 block_limit)
    (record {
      rate = refl;
      count = refl;
      channels = refl;
      blocks = refl;
      few = m;
      long = offsets_long kept from (lesser to (u32_at kept file_header_size)) block_limit 0 ∙ sym (offsets_long kept 0 (lesser block_limit (u32_at kept file_header_size)) block_limit 0);
      offset = λ i a b c. offset_is kept from to (u32_at kept file_header_size) i m a b c ∙ sym (offset_is kept 0 block_limit (u32_at kept file_header_size) i m (omega arith) (omega arith) c);
    }))

-- ---- Block read: the offset of its block

block_by : (s : List ℕ) (r q : HpsReader) (ch i to : ℕ) → (i < block_limit → i < to) → Part r q i to → block_read s r ch i ≡ block_read s q ch i
unfolding block_read
block_by s r q ch i to h p =
    by_cases (leb q.blocks i)
    (λ t. rw (p.count, p.blocks, t))
    (λ t.
    let g = leb-false q.blocks i t in
    let f = p.few in
    let e : offset_in r i ≡ offset_in q i = p.offset i (omega arith) (h (omega arith)) g in
    rw (p.count, p.blocks, p.rate, p.channels, e))

pub block_same : (s kept : List ℕ) (ch i to : ℕ) → (i < block_limit → i < to) → block_read s (part_in kept i to) ch i ≡ block_read s (reader_in kept) ch i
block_same s kept ch i to h = block_by s (part_in kept i to) (reader_in kept) ch i to h (part_of kept i to)

-- ---- Addresses remaining: the offsets from a block on

remaining_by : (r q : HpsReader) (i : ℕ) → Part r q i block_limit → offsets_from r i ≡ offsets_from q i
remaining_by r q i p =
    let n : length (offsets_from r i) ≡ length (offsets_from q i) = simp (length-drop, length-take, p.blocks, p.long) in
    ext_get_or 0 (offsets_from r i) (offsets_from q i) n
    (λ k h.
    let f = p.few in
    let b : i + k < q.blocks = rw p.blocks at (within r k h) in
    get_or-drop i (take r.blocks r.offsets) k 0 ∙ get_or-take r.blocks r.offsets (i + k) 0 (rw p.blocks b)
    ∙ p.offset (i + k) (omega arith) (omega arith) b
    ∙ sym (get_or-drop i (take q.blocks q.offsets) k 0 ∙ get_or-take q.blocks q.offsets (i + k) 0 b))
  where
    within : (r : HpsReader) (k : ℕ) → k < length (offsets_from r i) → i + k < r.blocks
    within r k h = let g = simp (length-drop, length-take) at h in omega arith

pub remaining_same : (s kept : List ℕ) (i : ℕ) → data_remaining s (part_in kept i block_limit) i ≡ data_remaining s (reader_in kept) i
unfolding data_remaining
remaining_same s kept i = rw (remaining_by (part_in kept i block_limit) (reader_in kept) i (part_of kept i block_limit))

pub same_count : (kept : List ℕ) (from to : ℕ) → (part_in kept from to).count ≡ (reader_in kept).count
same_count kept from to = (part_of kept from to).count
