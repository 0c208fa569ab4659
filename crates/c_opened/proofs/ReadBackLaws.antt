-- The bytes that are put for an opening's record stand for that record.
use Rattle.std.proofs.Common.{Option, Some, None}
use Prim.Native.Nat.{ℕ, zero, suc, ◌+◌, ◌*◌, ◌-◌, ◌%◌, ◌≤◌, ◌<◌}
use mathlib.Core.Path.{◌≡◌, refl, sym, ap, ◌∙◌}
use mathlib.Core.Bool.{true, false}
use mathlib.Core.Logic.{⊎_elim}
use mathlib.Core.List.{List, [], ◌∷◌, ◌++◌, flat_map}
use native.Mathlib.Omega.{arith}
use native.Mathlib.Nat.{le_of_suc-le-suc}
use lib.ListN.{length, take, drop, get_or, replicate, length-append, length-replicate, get_or-append, get_or-eq_default}
use lib.Seq.{get_or-take, get_or-append-add, take-append_seam, length-take-le, ext_get_or}
use lib.Dec.{ltb, leb, eqb}
use borrow.Author.Tests.{le-leb, leb-true, leb-false, ltb-true, ltb-false, ne_eqb}
use Rattle.layout.specs.Choice.{pick}
use Rattle.layout.specs.Lists.{All}
use Rattle.layout.specs.Puts.{put_at}
use Rattle.layout.specs.Types.{Bytes}
use Rattle.layout.specs.Records.{u16_at, u32_at, i16s, be16, be32, be_z16, context_at, context_bytes, Read, field, format_of, on, channel_at, channel_bytes}
use Rattle.layout.specs.Records.{read_channel, no_channel, header_at, read_header, file_header_size, first_block_offset}
use Rattle.layout.specs.declared.Channel.{Channel}
use Rattle.layout.specs.declared.DspFormat.{DspFormat}
use Rattle.layout.specs.declared.BlockHeader.{BlockHeader}
use Rattle.layout.proofs.Cases.{by_cases}
use Rattle.layout.proofs.Lengths.{be32-length}
use Rattle.layout.proofs.FieldLaws.{field-inside, field_past, field_value}
use Rattle.layout.proofs.AtLaws.{At, at_left, at_right, at_move, at_same, at_byte, u32_back}
use Rattle.layout.proofs.ReadBack.{channel-back, none-fits}
use Rattle.layout.proofs.PutLaws.{put_at_in, put_at-length}
use Rattle.reader.specs.OpeningAndReading.{Walked, first_at, walk_from, Opened, made, opening, Readable}
use Rattle.reader.specs.declared.HpsReader.{HpsReader}
use Rattle.reader.proofs.HeaderLaws.{header_cases, header_is}
use Rattle.reader.proofs.OpenedLaws.{Parts, opened_parts_lem, one_or_two, not_walked, opened_readable}
use Rattle.layout_number_or_zero.specs.NumberOrZero.{word_at}
use Rattle.layout_number_or_zero.proofs.NumberLaws.{word_in}
use Rattle.c_opened.specs.KeptReader.{loop_number, loop_of, file_kept, offsets_kept, opened_parts, opened_bytes, offsets_in, reader_in, ReadBack, opened_size, offsets_at}
use Rattle.c_opened.proofs.KeptReads.{first_offset, offsets_long, second-lesser, part-made}
use Rattle.layout.specs.Refusals.{block_limit}
use Rattle.layout.proofs.ListLaws.{zeros_at, all_snoc}

-- ---- Lengths

pub offsets_length : (os : List ℕ) → length (flat_map be32 os) ≡ 4 * length os
unfolding flat_map
offsets_length [] = refl
offsets_length (o ∷ os) = length-append (be32 o) (flat_map be32 os) ∙ omega (arith, be32-length o, offsets_length os)

pub file-length : (s : List ℕ) (count : ℕ) → file_header_size ≤ length s → length (file_kept s count) ≡ file_header_size
unfolding file_kept
file-length s count h =
    by_cases (eqb count 2)
    (λ t. rw t (length-take-le file_header_size s h))
    (λ t. rw t (length-append (take 72 s) (replicate 56 0) ∙ omega (arith, length-take-le 72 s (omega arith), length-replicate {A = ℕ} 56 0)))

-- ---- The same bytes read the same

-- the same bytes from one place up to another
abbrev pub Agree : (s t : List ℕ) (from to : ℕ) → Type 0
Agree s t from to = (i : ℕ) → from ≤ i → i < to → get_or s i 0 ≡ get_or t i 0

module _ (s t : List ℕ) (from to : ℕ) (a : Agree s t from to) where
  pub u16_same : (at : ℕ) → from ≤ at → at + 2 ≤ to → u16_at s at ≡ u16_at t at
  unfolding u16_at
  u16_same at l h = rw (a at l (omega arith), a (at + 1) (omega arith) (omega arith))

  pub u32_same : (at : ℕ) → from ≤ at → at + 4 ≤ to → u32_at s at ≡ u32_at t at
  unfolding u32_at
  u32_same at l h = rw (u16_same at l (omega arith), u16_same (at + 2) (omega arith) (omega arith))

  i16s-same : (n at : ℕ) → from ≤ at → at + 2 * n ≤ to → i16s s at n ≡ i16s t at n
  unfolding i16s
  i16s-same zero at l h = refl
  i16s-same (suc n) at l h = rw (u16_same at l (omega arith), i16s-same n (at + 2) (omega arith) (omega arith))

  context-same : (at : ℕ) → from ≤ at → at + 6 ≤ to → context_at s at ≡ context_at t at
  unfolding context_at
  context-same at l h = rw (u16_same at l (omega arith), u16_same (at + 2) (omega arith) (omega arith), u16_same (at + 4) (omega arith) (omega arith))

  channel_at-same : (at : ℕ) (f : DspFormat) → from ≤ at → at + 56 ≤ to → channel_at s at f ≡ channel_at t at f
  unfolding channel_at
  channel_at-same at f l h =
      rw (
        u16_same at l (omega arith),
        u32_same (at + 4) (omega arith) (omega arith),
        u32_same (at + 8) (omega arith) (omega arith),
        u32_same (at + 12) (omega arith) (omega arith),
        i16s-same 16 (at + 16) (omega arith) (omega arith),
        u16_same (at + 48) (omega arith) (omega arith),
        context-same (at + 50) (omega arith) (omega arith),
      )

  pub channel-same : (at : ℕ) → from ≤ at → at + 56 ≤ to → at + 56 ≤ length s → at + 56 ≤ length t → read_channel s at ≡ read_channel t at
  unfolding read_channel
  channel-same at l h m n =
      rw (field-inside s (at + 4) (u16_at s (at + 2)) (omega arith), field-inside t (at + 4) (u16_at t (at + 2)) (omega arith), u16_same (at + 2) (omega arith) (omega arith))
      (by_format (format_of (u16_at t (at + 2))))
    where
      by_format : (q : Read DspFormat) → on q Read.refused (λ f. field s (at + 56) (channel_at s at f)) ≡ on q Read.refused (λ f. field t (at + 56) (channel_at t at f))
      by_format (Read.refused k) = refl
      by_format (Read.value f) = rw (field-inside s (at + 56) (channel_at s at f) m, field-inside t (at + 56) (channel_at t at f) n, channel_at-same at f l h)

-- ---- What an opening's walk gives

abbrev Small : ℕ → Type 0
Small n = n < 4294967296

byte_small : (s : List ℕ) → Bytes s → (i : ℕ) → get_or s i 0 < 256
byte_small s b i =
    by_cases (ltb i (length s)) (λ t. b i (ltb-true i (length s) t))
    (λ t. let e : get_or s i 0 ≡ 0 = get_or-eq_default s 0 (ltb-false i (length s) t) in omega arith)

u32_small : (s : List ℕ) → Bytes s → (at : ℕ) → u32_at s at < 4294967296
unfolding u32_at u16_at
u32_small s b at = omega (arith, byte_small s b at, byte_small s b (at + 1), byte_small s b (at + 2), byte_small s b (at + 2 + 1))

-- its offsets are u32, and its loop start is one of its blocks
record Walk (os : List ℕ) (start : Option ℕ) : Type 0 where
  small : All Small os
  loop : (i : ℕ) → start ≡ Some i → i < length os

walk_ended : {here os : List ℕ} {l start : Option ℕ} → All Small here → ((i : ℕ) → l ≡ Some i → i < length here) → Walked.walked here l ≡ Walked.walked os start → Walk os start
walk_ended {here} {os} {l} {start} f g e =
    let x : here ≡ os = cc in
    let y : l ≡ start = cc in
    rw (← x, ← y) (record { small = f; loop = g })

next_small : (s : List ℕ) (at : ℕ) (v : BlockHeader) → Bytes s → read_header s at ≡ Read.value v → v.next_offset < 4294967296
unfolding header_at
next_small s at v b t = rw (header_is s at t) (u32_small s b (at + 8))

walk_is : (n : ℕ) (s seen : List ℕ) (at : ℕ) (os : List ℕ) (start : Option ℕ) → Bytes s → All Small seen → Small at → walk_from n s seen at ≡ Walked.walked os start → Walk os start
unfolding walk_from
walk_is zero s seen at os start b f h e = not_walked 5 os start e
walk_is (suc n) s seen at os start b f h e =
    header_cases s at
    (λ t. not_walked 1 os start (rw t at e))
    (λ v t.
    let here = seen ++ (at ∷ []) in
    let next = v.next_offset in
    let g = all_snoc f h in
    let e1 = rw t at e in
    by_cases (eqb next 4294967295)
    (λ u. walk_ended g (λ i z. absurd (let q : ◌≡◌ {A = ℕ} 0 1 = cc in omega arith)) (rw u at e1))
    (λ u.
    let e2 = rw u at e1 in
    by_cases (ltb (first_at next here) (length here))
    (λ w. walk_ended g (λ i z. let q : first_at next here ≡ i = cc in rw (← q) (ltb-true (first_at next here) (length here) w)) (rw w at e2))
    (λ w. walk_is n s here next os start b g (next_small s at v b t) (rw w at e2))))

-- ---- Numbers one after the other

offset_back : {k : List ℕ} (off : ℕ) (os : List ℕ) → All Small os → At k off (flat_map be32 os) → (j : ℕ) → j < length os → u32_at k (off + 4 * j) ≡ get_or os j 0
unfolding flat_map
offset_back off [] f a j h = absurd (omega arith)
offset_back {k} off (o ∷ os) (All.more g f) a zero h = let e : off + 4 * zero ≡ off = omega arith in rw e (u32_back g (at_left (be32 o) (flat_map be32 os) a))
offset_back {k} off (o ∷ os) (All.more g f) a (suc j) h =
    let e : off + 4 * suc j ≡ off + 4 + 4 * j = omega arith in
    rw e (offset_back (off + 4) os f (at_move (off + 4) (ap (λ (m : ℕ). off + m) (be32-length o)) (at_right (be32 o) (flat_map be32 os) a)) j (le_of_suc-le-suc h))

zeros_after : (os : List ℕ) (n j : ℕ) → length os ≤ j → ◌≡◌ {A = ℕ} (get_or (os ++ replicate n 0) j 0) 0
zeros_after os n j h =
    let e : length os + (j - length os) ≡ j = omega arith in
    ap (λ (i : ℕ). get_or (os ++ replicate n 0) i 0) (sym e) ∙ get_or-append-add os (replicate n 0) (j - length os) 0 ∙ zeros_at n (j - length os)

table-back : (k os : List ℕ) → All Small os → length os ≤ block_limit → At k offsets_at (flat_map be32 os) → os ++ replicate (block_limit - length os) 0 ≡ offsets_in k 0 (length os) block_limit 0
table-back k os f h a =
    let n : length (os ++ replicate (block_limit - length os) 0) ≡ block_limit = length-append os _ ∙ omega (arith, length-replicate {A = ℕ} (block_limit - length os) 0) in
    ext_get_or 0 (os ++ replicate (block_limit - length os) 0) (offsets_in k 0 (length os) block_limit 0) (n ∙ sym (offsets_long k 0 (length os) block_limit 0))
    (λ j b.
    let j-small : j < block_limit = omega arith in
    by_cases (ltb j (length os))
    (λ t.
    let l = ltb-true j (length os) t in
    get_or-append os (replicate (block_limit - length os) 0) 0 j l ∙ sym (first_offset k 0 (length os) block_limit j j-small ∙ rw (le-leb 0 j (omega arith), t) (offset_back offsets_at os f a j l)))
    (λ t. zeros_after os (block_limit - length os) j (ltb-false j (length os) t) ∙ sym (first_offset k 0 (length os) block_limit j j-small ∙ rw (le-leb 0 j (omega arith), t))))

loop-back : (l : Option ℕ) → ((i : ℕ) → l ≡ Some i → i < block_limit) → (loop_number l < 4294967296) × (l ≡ loop_of (loop_number l))
loop-back None h = (omega arith, refl)
loop-back (Some i) h =
    let s = h i refl in
    let e : i % 4294967296 ≡ i = omega arith in
    rw e (omega arith, rw (ne_eqb i 4294967295 (apart i s)))
  where
    apart : (i : ℕ) → i < block_limit → i ≡ 4294967295 → ⊥
    apart i s z = omega arith

none_bytes : channel_bytes no_channel ≡ replicate 56 0
unfolding channel_bytes no_channel be16 be32 be_z16 context_bytes flat_map
none_bytes = refl

-- ---- The record

-- the file header that is kept, and the record's parts after it
module _ (s kept : List ℕ) (count : ℕ) (os : List ℕ) (start : Option ℕ) (h : file_header_size ≤ length s) (bs : List ℕ)
    (is : bs ≡ ((file_kept s count ++ be32 (length os)) ++ be32 (loop_number start)) ++ (flat_map be32 os ++ replicate (4 * (block_limit - length os)) 0)) (room : opened_size ≤ length kept)
    (few : length os ≤ block_limit) where
  long : length bs ≡ opened_size
  long =
      ap length is ∙ simp (length-append, be32-length, length-replicate) (omega (arith, file-length s count h, offsets_length os))

  there : At (put_at kept 0 bs) 0 bs
  there =
      let l = long in
      record { before = []; rest = drop (0 + length bs) kept; long = refl; is = put_at_in kept 0 bs (omega arith) }

  all : At (put_at kept 0 bs) 0 (((file_kept s count ++ be32 (length os)) ++ be32 (loop_number start)) ++ (flat_map be32 os ++ replicate (4 * (block_limit - length os)) 0))
  all = at_same _ is there

  front : At (put_at kept 0 bs) 0 ((file_kept s count ++ be32 (length os)) ++ be32 (loop_number start))
  front = at_left ((file_kept s count ++ be32 (length os)) ++ be32 (loop_number start)) (flat_map be32 os ++ replicate (4 * (block_limit - length os)) 0) all

  head : At (put_at kept 0 bs) 0 (file_kept s count ++ be32 (length os))
  head = at_left (file_kept s count ++ be32 (length os)) (be32 (loop_number start)) front

  pub file-there : At (put_at kept 0 bs) 0 (file_kept s count)
  file-there = at_left (file_kept s count) (be32 (length os)) head

  head-long : length (file_kept s count ++ be32 (length os)) ≡ 132
  head-long = length-append (file_kept s count) (be32 (length os)) ∙ omega (arith, file-length s count h, be32-length (length os))

  front_long : length ((file_kept s count ++ be32 (length os)) ++ be32 (loop_number start)) ≡ offsets_at
  front_long = length-append (file_kept s count ++ be32 (length os)) (be32 (loop_number start)) ∙ omega (arith, head-long, be32-length (loop_number start))

  pub blocks_there : At (put_at kept 0 bs) file_header_size (be32 (length os))
  blocks_there = at_move file_header_size (omega (arith, file-length s count h)) (at_right (file_kept s count) (be32 (length os)) head)

  pub loop-there : At (put_at kept 0 bs) 132 (be32 (loop_number start))
  loop-there = at_move 132 (omega (arith, head-long)) (at_right (file_kept s count ++ be32 (length os)) (be32 (loop_number start)) front)

  pub table-there : At (put_at kept 0 bs) offsets_at (flat_map be32 os)
  table-there =
      at_left (flat_map be32 os) (replicate (4 * (block_limit - length os)) 0)
      (at_move offsets_at (omega (arith, front_long)) (at_right ((file_kept s count ++ be32 (length os)) ++ be32 (loop_number start)) (flat_map be32 os ++ replicate (4 * (block_limit - length os)) 0) all))

-- the first channel's bytes are the slot's, and the second's where it is in use
module _ (s k : List ℕ) (count : ℕ) (h : file_header_size ≤ length s) (a : At k 0 (file_kept s count)) where
  byte : (i : ℕ) → i < file_header_size → get_or k i 0 ≡ get_or (file_kept s count) i 0
  byte i b = at_byte i i (omega arith) a ∙ get_or-append (file_kept s count) a.rest 0 i (omega (arith, file-length s count h))

  pub file_agrees : Agree k s 0 72
  unfolding file_kept
  file_agrees i l b =
      byte i (omega arith)
      ∙ by_cases (eqb count 2)
      (λ t. rw t (get_or-take file_header_size s i 0 (omega arith)))
      (λ t. rw t (get_or-append (take 72 s) (replicate 56 0) 0 i (omega (arith, length-take-le 72 s (omega arith))) ∙ get_or-take 72 s i 0 b))

  pub second_agrees : eqb count 2 ≡ true → Agree k s 72 file_header_size
  unfolding file_kept
  second_agrees t i l b = byte i b ∙ rw t (get_or-take file_header_size s i 0 b)

  pub second_none : eqb count 2 ≡ false → At k 72 (replicate 56 0)
  unfolding file_kept
  second_none t =
      let f : At k 0 (take 72 s ++ replicate 56 0) = at_same (take 72 s ++ replicate 56 0) (rw t) a in
      at_move 72 (omega (arith, length-take-le 72 s (omega arith))) (at_right (take 72 s) (replicate 56 0) f)

  module _ (m : file_header_size ≤ length k) (l r : Channel) (f : read_channel s 16 ≡ Read.value l) (g : read_channel s 72 ≡ Read.value r) where
    pub left_back : read_channel k 16 ≡ Read.value l
    left_back = channel-same k s 0 72 file_agrees 16 (omega arith) (omega arith) (omega arith) (omega arith) ∙ f

    pub right_back : read_channel k 72 ≡ Read.value (pick (eqb count 2) r no_channel)
    right_back =
        by_cases (eqb count 2)
        (λ t. rw t (channel-same k s 72 file_header_size (second_agrees t) 72 (omega arith) (omega arith) (omega arith) (omega arith) ∙ g))
        (λ t. rw t (channel-back k 72 no_channel none-fits (at_same (channel_bytes no_channel) (sym none_bytes) (second_none t))))

-- a channel that was read lies in the slot
channel-inside : (s : List ℕ) (c : Channel) → read_channel s 72 ≡ Read.value c → file_header_size ≤ length s
unfolding read_channel
channel-inside s c e =
    by_cases (leb file_header_size (length s)) (λ t. leb-true file_header_size (length s) t)
    (λ t.
    let h = leb-false file_header_size (length s) t in
    absurd (by_cases (leb 76 (length s))
    (λ u.
    let k = rw (field-inside s 76 (u16_at s 74) (leb-true 76 (length s) u)) at e in
    formats (format_of (u16_at s 74)) (λ f. field_past s file_header_size (channel_at s 72 f) h) k)
    (λ u.
    let k = rw (field_past s 76 (u16_at s 74) (leb-false 76 (length s) u)) at e in
    apart_read 1 c k)))
  where
    apart_read : (n : ℕ) (c : Channel) → Read.refused n ≡ Read.value c → ⊥
    apart_read n c e = let z : ◌≡◌ {A = ℕ} 0 1 = cc in omega arith

    formats : (q : Read DspFormat) → ((f : DspFormat) → field s file_header_size (channel_at s 72 f) ≡ Read.refused 1) → on q Read.refused (λ f. field s file_header_size (channel_at s 72 f))
        ≡ Read.value c → ⊥
    formats (Read.refused n) g e = apart_read n c e
    formats (Read.value f) g e = apart_read 1 c (sym (g f) ∙ e)

-- a slot that opens has a whole header
pub opened-long : (s : List ℕ) (r : HpsReader) → opening s ≡ Opened.opened r → file_header_size ≤ length s
opened-long s r e = channel-inside s _ (opened_parts_lem s r e).right_read

made_offsets : (rate count : ℕ) (l r : Channel) (os : List ℕ) (start : Option ℕ) → (made rate count l r os start).blocks ≤ length (made rate count l r os start).offsets
unfolding made
made_offsets rate count l r os start = simp length-append (omega arith)

-- each block of a record has its offset
pub opened_offsets : (s : List ℕ) (r : HpsReader) → opening s ≡ Opened.opened r → r.blocks ≤ length r.offsets
opened_offsets s r e = let p = opened_parts_lem s r e in rw (← p.is) (made_offsets p.rate p.count p.left p.right p.offsets p.start)

-- the bytes of a record by its parts
bytes_are : (s : List ℕ) (rate count : ℕ) (l r : Channel) (os : List ℕ) (start : Option ℕ)
    → opened_bytes s (made rate count l r os start) ≡ ((file_kept s count ++ be32 (length os)) ++ be32 (loop_number start)) ++ (flat_map be32 os ++ replicate (4 * (block_limit - length os)) 0)
unfolding opened_parts offsets_kept made
bytes_are s rate count l r os start = rw (take-append_seam os (replicate (block_limit - length os) 0))

blocks_made : (rate count : ℕ) (l r : Channel) (os : List ℕ) (start : Option ℕ) → length os ≡ (made rate count l r os start).blocks
unfolding made
blocks_made rate count l r os start = refl

module _ (s kept : List ℕ) (b : Bytes s) (h : file_header_size ≤ length s) (room : opened_size ≤ length kept) {r : HpsReader} (p : Parts s r) (few : length p.offsets ≤ block_limit) where
  back : reader_in (put_at kept 0 (opened_bytes s (made p.rate p.count p.left p.right p.offsets p.start))) ≡ made p.rate p.count p.left p.right p.offsets p.start
  unfolding made
  back =
      let os = p.offsets in
      let bs = opened_bytes s (made p.rate p.count p.left p.right os p.start) in
      let k = put_at kept 0 bs in
      let is = bytes_are s p.rate p.count p.left p.right os p.start in
      let n : length k ≡ length kept = put_at-length kept 0 bs in
      let m : opened_size ≤ length k = omega arith in
      let m' : file_header_size ≤ length k = omega arith in
      let f = file-there s kept p.count os p.start h bs is room few in
      let g = file_agrees s k p.count h f in
      let w = walk_is block_limit s [] first_block_offset os p.start b All.none (omega arith) p.walk in
      let lb = loop-back p.start (λ i z. omega (arith, w.loop i z)) in
      let two : p.count ≤ 2 = ⊎_elim (λ z. omega arith) (λ z. omega arith) (one_or_two p.count p.right_count) in
      let rate : p.rate ≡ word_at k 8 = (field_value s 12 (u32_at s 8) p.rate p.rate_read).is ∙ sym (word_in k 8 (omega arith) ∙ u32_same k s 0 72 g 8 (omega arith) (omega arith)) in
      let count : p.count ≡ word_at k 12 = (field_value s 16 (u32_at s 12) p.count p.count_read).is ∙ sym (word_in k 12 (omega arith) ∙ u32_same k s 0 72 g 12 (omega arith) (omega arith)) in
      let blocks : length os ≡ word_at k file_header_size = sym (word_in k file_header_size (omega arith) ∙ u32_back (omega arith) (blocks_there s kept p.count os p.start h bs is room few)) in
      let number : loop_number p.start ≡ word_at k 132 = sym (word_in k 132 (omega arith) ∙ u32_back lb.0 (loop-there s kept p.count os p.start h bs is room few)) in
      sym (part-made k 0 block_limit m count two blocks few
      (left_back s k p.count h f m' p.left p.right p.left_read p.right_read)
      (right_back s k p.count h f m' p.left p.right p.left_read p.right_read)
      rate refl refl refl (second-lesser block_limit (length os) few)
      (table-back k os w.small few (table-there s kept p.count os p.start h bs is room few)) number lb.1)

-- a slot of bytes that opens to a record, and room for one: what is put is read back
pub read_back : ReadBack
read_back s kept r b e room =
    let p = opened_parts_lem s r e in
    let ok : Readable r = opened_readable s r e in
    let few : length p.offsets ≤ block_limit = rw (blocks_of p) ok.blocks in
    rw (← p.is) (back s kept b (opened-long s r e) room p few)
  where
    blocks_of : {r : HpsReader} (p : Parts s r) → length p.offsets ≡ r.blocks
    blocks_of p = blocks_made p.rate p.count p.left p.right p.offsets p.start ∙ ap (λ (x : HpsReader). x.blocks) p.is
