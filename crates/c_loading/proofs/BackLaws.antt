-- The record that bytes hold after it was put there is the record that was put.
use Rattle.std.specs.Prelude.{Option, Some, None}
use Prim.Native.Nat.{ℕ, zero, suc, ◌+◌, ◌%◌, ◌≤◌, ◌<◌}
use mathlib.Core.Path.{◌≡◌, refl, sym, ap, ◌∙◌}
use mathlib.Core.Bool.{Bool, true, false, not}
use mathlib.Core.List.{List, [], ◌∷◌, ◌++◌, append_assoc, append-nil, flat_map}
use native.Mathlib.Omega.{arith}
use lib.ListN.{length, length-append}
use lib.Dec.{eqb}
use lib.IntN.{ℤ}
use mir.Syntax.{w16}
use mir.Val.{SFits}
use borrow.Author.Tests.{ne_eqb, le-leb}
use Rattle.layout.specs.Lists.{All}
use Rattle.layout.specs.Puts.{put_at}
use Rattle.layout.specs.Records.{be16, be32, be_z16, context_bytes}
use Rattle.layout.proofs.Cases.{by_cases}
use Rattle.layout.proofs.Lengths.{be16-length, be32-length, be_z16-length, coefficients_length}
use Rattle.layout.proofs.AtLaws.{At, at_left, at_right, at_move, at_same, at-inside, joined, Pieces, pieces, u16_back, i16_back}
use Rattle.layout.proofs.PutLaws.{put_at-length}
use Rattle.writer.specs.Typed.{TypedBlock}
use Rattle.writer.specs.Loading.{no_block, begin_refusal, finish_refusal, mode_of}
use Rattle.writer.specs.Calls.{empty_of, begin_of, after_finish, finish_of, Good}
use Rattle.writer.proofs.GoodLaws.{empty_good, finish_good}
use Rattle.writer.specs.declared.ChannelBlock.{ChannelBlock}
use Rattle.writer.specs.declared.Cue.{Cue}
use Rattle.writer.specs.declared.Looping.{Looping}
use Rattle.c_record.specs.Fields.{fields_of, writer_of}
use Rattle.c_record.specs.declared.Fields.{Fields}
use Rattle.layout_number_or_zero.specs.NumberOrZero.{half_at, signed_at, word_at, long_at}
use Rattle.c_opened.specs.KeptReader.{be64}
use Rattle.c_opened.proofs.LongLaws.{be64-length, word_back, long-back}
use Rattle.c_opened.proofs.ReadBackLaws.{Agree}
use Rattle.c_record.specs.KeptSides.{signed_from, side_in, cues_kept, table_in, cues_at, left_at, right_at, loader_size}
use Rattle.c_record.proofs.SameLaws.{word_same, long_same, side_same, table_same}
use Rattle.c_record_put.specs.KeptNumbers.{mode_number, loop_offset_number, flag_number, places_bytes, sums_bytes, marks_bytes, number_bytes}
use Rattle.c_record_put.proofs.NumberLaws.{places_length, sums_length, numbers_length}
use Rattle.c_record.specs.KeptWriter.{loop_offset, fields_in, sensible, stream_in, writer_in}
use Rattle.c_record.proofs.KeptLaws.{kept_good}
use Rattle.c_record_put.proofs.SameLaws.{same-before, same_after}
use Rattle.c_record_put.proofs.ThereLaws.{put-there}
use Rattle.c_record_put.specs.KeptRecord.{side_bytes, record_bytes}
use Rattle.c_record_put.proofs.RecordLaws.{side-length}
use Rattle.c_loading.proofs.AfterLaws.{holds, held-is, good_sensible}
use Rattle.layout.specs.Refusals.{slot_limit}
use Rattle.layout.proofs.ReadBack.{zeros_fit}

-- ---- Numbers

half_back : {k : List ℕ} (off x : ℕ) → x < 65536 → At k off (be16 x) → half_at k off ≡ x
unfolding half_at
half_back {k} off x h a = rw (le-leb (off + 2) (length k) (omega (arith, at-inside a, be16-length x))) (u16_back h a)

signed_back : {k : List ℕ} (off : ℕ) (z : ℤ) → SFits w16 z → At k off (be_z16 z) → signed_at k off ≡ z
unfolding signed_at
signed_back {k} off z f a = rw (le-leb (off + 2) (length k) (omega (arith, at-inside a, be_z16-length z))) (i16_back f a)

some_back : {k : List ℕ} (off n : ℕ) (zs : List ℤ) → length zs ≡ n → All (SFits w16) zs → At k off (flat_map be_z16 zs) → signed_from k off n ≡ zs
unfolding signed_from flat_map
some_back off zero [] l f a = refl
some_back off (suc n) [] l f a = absurd (omega arith)
some_back off zero (z ∷ zs) l f a = absurd (omega arith)
some_back {k} off (suc n) (z ∷ zs) l (All.more g f) a =
    let x = signed_back off z g (at_left (be_z16 z) (flat_map be_z16 zs) a) in
    let y = some_back {k = k} (off + 2) n zs (omega arith) f (at_move (off + 2) (ap (λ (m : ℕ). off + m) (be_z16-length z)) (at_right (be_z16 z) (flat_map be_z16 zs) a)) in
    rw (x, y)

abbrev pub Long : ℕ → Type 0
Long n = n < 18446744073709551616

four_back : {k : List ℕ} (off a b c d : ℕ) → Long a → Long b → Long c → Long d → At k off (flat_map be64 (a ∷ b ∷ c ∷ d ∷ []))
    → (long_at k off ≡ a) × (long_at k (off + 8) ≡ b) × (long_at k (off + 16) ≡ c) × (long_at k (off + 24) ≡ d)
unfolding flat_map
four_back off a b c d fa fb fc fd x =
    let ps = pieces off (be64 a ∷ be64 b ∷ be64 c ∷ be64 d ∷ []) x in
    let la = be64-length a in
    let lb = be64-length b in
    let lc = be64-length c in (
      long-back off fa ps.0,
      long-back (off + 8) fb (at_move (off + 8) (omega arith) ps.1.0),
      long-back (off + 16) fc (at_move (off + 16) (omega arith) ps.1.1.0),
      long-back (off + 24) fd (at_move (off + 24) (omega arith) ps.1.1.1.0),
    )

module _ {k : List ℕ} (off a b c d : ℕ) (fa : Long a) (fb : Long b) (fc : Long c) (fd : Long d) where
  places_back : At k off (places_bytes a b c d) → (long_at k off ≡ a) × (long_at k (off + 8) ≡ b) × (long_at k (off + 16) ≡ c) × (long_at k (off + 24) ≡ d)
  unfolding places_bytes
  places_back x = four_back off a b c d fa fb fc fd x

  sums_back : At k off (sums_bytes a b c d) → (long_at k off ≡ a) × (long_at k (off + 8) ≡ b) × (long_at k (off + 16) ≡ c) × (long_at k (off + 24) ≡ d)
  unfolding sums_bytes
  sums_back x = four_back off a b c d fa fb fc fd x

marks_parts : {k : List ℕ} (off : ℕ) (l : Option ℕ) (m : Looping) (id : ℕ) (last finished : Bool) → At k off (marks_bytes l m id last finished)
    → Pieces k off (be64 (loop_offset_number l) ∷ be32 (mode_number m) ∷ be32 id ∷ be32 (flag_number last) ∷ be32 (flag_number finished) ∷ [])
unfolding marks_bytes flat_map
marks_parts off l m id last finished a =
    pieces off (be64 (loop_offset_number l) ∷ be32 (mode_number m) ∷ be32 id ∷ be32 (flag_number last) ∷ be32 (flag_number finished) ∷ []) a

-- ---- What is no number

mode_back : (m : Looping) → (mode_number m < 4294967296) × (mode_of (mode_number m) ≡ m)
mode_back Looping.Disabled = (omega arith, refl)
mode_back Looping.Enabled = (omega arith, refl)
mode_back Looping.Auto = (omega arith, refl)

flag_back : (b : Bool) → (flag_number b < 4294967296) × (not (eqb (flag_number b) 0) ≡ b)
flag_back true = (omega arith, refl)
flag_back false = (omega arith, refl)

-- an offset in a slot
loop-back : (l : Option ℕ) (o : ℕ) → ((n : ℕ) → l ≡ Some n → n ≤ o) → o ≤ slot_limit → Long (loop_offset_number l) × (loop_offset (loop_offset_number l) ≡ l)
unfolding loop_offset
loop-back None o h s = (omega arith, refl)
loop-back (Some n) o h s =
    let le = h n refl in
    (omega arith, rw (ne_eqb n 18446744073709551615 (far n (omega arith))))
  where
    far : (n : ℕ) → n ≤ slot_limit → n ≡ 18446744073709551615 → ⊥
    far n s z = omega arith

-- ---- The numbers of a record

pub numbers_back : (k : List ℕ) (s : Fields) (t : List Cue) → Good (writer_of t s) → Long s.setup.channels → At k 0 (number_bytes s)
    → side_in k left_at ≡ s.stream.left → side_in k right_at ≡ s.stream.right → fields_in k ≡ s
unfolding fields_in number_bytes
numbers_back k s t g ch a l r =
    let places = places_bytes s.setup.slot s.setup.channels s.count s.stream.next in
    let sums = sums_bytes s.stream.base s.stream.offset s.stream.blocks s.stream.sum in
    let marks = marks_bytes s.stream.loopat s.setup.mode s.stream.id s.stream.last s.finished in
    let pl : length places ≡ 32 = places_length s.setup.slot s.setup.channels s.count s.stream.next in
    let sl : length sums ≡ 32 = sums_length s.stream.base s.stream.offset s.stream.blocks s.stream.sum in
    let front = at_left (places ++ sums) marks a in
    let small = g.small in
    let few = g.few in
    let placed = g.placed in
    let room = g.room in
    let many = g.many in
    let p = places_back 0 s.setup.slot s.setup.channels s.count s.stream.next (omega arith) ch (omega arith) (omega arith) (at_left places sums front) in
    let q = sums_back 32 s.stream.base s.stream.offset s.stream.blocks s.stream.sum (omega (arith, g.base)) (omega arith) (omega arith) (omega (arith, g.sums))
    (at_move 32 (omega arith) (at_right places sums front)) in
    let loop = loop-back s.stream.loopat s.stream.offset g.looped (omega arith) in
    let mode = mode_back s.setup.mode in
    let last = flag_back s.stream.last in
    let done = flag_back s.finished in
    let m = marks_parts 64 s.stream.loopat s.setup.mode s.stream.id s.stream.last s.finished (at_move 64 (omega (arith, length-append places sums)) (at_right (places ++ sums) marks a)) in
    let nl = be64-length (loop_offset_number s.stream.loopat) in
    let nm = be32-length (mode_number s.setup.mode) in
    let ni = be32-length s.stream.id in
    let nt = be32-length (flag_number s.stream.last) in
    let m₀ : long_at k 64 ≡ loop_offset_number s.stream.loopat = long-back 64 loop.0 m.0 in
    let m₁ : word_at k 72 ≡ mode_number s.setup.mode = word_back 72 mode.0 (at_move 72 (omega arith) m.1.0) in
    let m₂ : word_at k 76 ≡ s.stream.id = word_back 76 (omega (arith, g.named)) (at_move 76 (omega arith) m.1.1.0) in
    let m₃ : word_at k 80 ≡ flag_number s.stream.last = word_back 80 last.0 (at_move 80 (omega arith) m.1.1.1.0) in
    let m₄ : word_at k 84 ≡ flag_number s.finished = word_back 84 done.0 (at_move 84 (omega arith) m.1.1.1.1.0) in
    rw (p.0, p.1, p.2, p.3, q.0, q.1, q.2, q.3, m₀, m₁, m₂, m₃, m₄, loop.1, mode.1, last.1, done.1, l, r)

-- ---- A side

abbrev side_parts : ChannelBlock → List (List ℕ)
side_parts b =
    be32 b.rate ∷ be32 b.length ∷ flat_map be_z16 b.coefficients ∷ be16 b.gain ∷ be16 b.context.predictor_and_scale ∷ be_z16 b.context.last ∷ be_z16 b.context.oldest ∷ []

side_parts_lem : (b : ChannelBlock) → b.length < 4294967296 → side_bytes b ≡ joined (side_parts b)
unfolding side_bytes context_bytes
side_parts_lem b h = let e : b.length % 4294967296 ≡ b.length = omega arith in rw e (simp (append_assoc, append-nil))

-- a side of values of their types that is no longer than a u32
pub record SideFits (b : ChannelBlock) : Type 0 where
  pub typed : TypedBlock b
  pub short : b.length < 4294967296

pub side-back : {k : List ℕ} (off : ℕ) (b : ChannelBlock) → SideFits b → At k off (side_bytes b) → side_in k off ≡ b
unfolding side_in
side-back {k} off b f a =
    let ps = pieces off (side_parts b) (at_same (joined (side_parts b)) (side_parts_lem b f.short) a) in
    let t = f.typed in
    let six = t.coefficients.sixteen in
    let n₀ = be32-length b.rate in
    let n₁ = be32-length b.length in
    let n₂ = coefficients_length b.coefficients in
    let n₃ = be16-length b.gain in
    let n₄ = be16-length b.context.predictor_and_scale in
    let n₅ = be_z16-length b.context.last in
    let x₀ = word_back off t.rate ps.0 in
    let x₁ = word_back (off + 4) f.short (at_move (off + 4) (omega arith) ps.1.0) in
    let x₂ = some_back (off + 8) 16 b.coefficients six t.coefficients.each (at_move (off + 8) (omega arith) ps.1.1.0) in
    let x₃ = half_back (off + 40) b.gain t.gain (at_move (off + 40) (omega arith) ps.1.1.1.0) in
    let x₄ = half_back (off + 42) b.context.predictor_and_scale t.context.scale (at_move (off + 42) (omega arith) ps.1.1.1.1.0) in
    let x₅ = signed_back (off + 44) b.context.last t.context.last (at_move (off + 44) (omega arith) ps.1.1.1.1.1.0) in
    let x₆ = signed_back (off + 46) b.context.oldest t.context.oldest (at_move (off + 46) (omega arith) ps.1.1.1.1.1.1.0) in
    rw (x₀, x₁, x₂, x₃, x₄, x₅, x₆)

-- ---- The record

-- bytes with these numbers and sides, and with the table of other bytes
pub record_back : (k k' : List ℕ) (s : Fields) (t : List Cue) → loader_size ≤ length k → length k' ≡ length k → Good (writer_of t s) → fields_in k' ≡ s → Agree k' k cues_at loader_size
    → writer_in k' ≡ writer_of (table_in k cues_at s.count) s
record_back k k' s t room long g e a =
    let is : stream_in k' ≡ s = held-is k' (omega arith) (ap sensible e ∙ good_sensible (writer_of t s) g) ∙ e in
    let few = g.few in
    rw is (ap (λ (c : List Cue). writer_of c s) (table_same k' k cues_at loader_size a long s.count cues_at (omega arith) (omega arith)))

-- ---- After finish

-- the numbers with the mark of a finished stream
abbrev marked : Fields → Fields
marked s = record { setup = s.setup; count = s.count; stream = s.stream; finished = true }

mark_back : (k : List ℕ) → loader_size ≤ length k → fields_in (put_at k 84 (be32 1)) ≡ marked (fields_in k)
unfolding fields_in
mark_back k room =
    let k' = put_at k 84 (be32 1) in
    let long = put_at-length k 84 (be32 1) in
    let n = be32-length 1 in
    let from = 84 + length (be32 1) in
    let a = (same-before k 84 (be32 1) (omega arith) 0 84 (omega arith)).byte in
    let b = (same_after k 84 (be32 1) (omega arith) from loader_size (omega arith)).byte in
    let l : (at : ℕ) → at + 8 ≤ 84 → long_at k' at ≡ long_at k at = λ at h. long_same k' k 0 84 a long at (omega arith) h in
    let w : (at : ℕ) → at + 4 ≤ 84 → word_at k' at ≡ word_at k at = λ at h. word_same k' k 0 84 a long at (omega arith) h in
    let m : word_at k' 84 ≡ 1 = word_back 84 (omega arith) (put-there k 84 (be32 1) (omega arith)) in
    rw (
      l 0 (omega arith),
      l 8 (omega arith),
      l 16 (omega arith),
      l 24 (omega arith),
      l 32 (omega arith),
      l 40 (omega arith),
      l 48 (omega arith),
      l 56 (omega arith),
      l 64 (omega arith),
      w 72 (omega arith),
      w 76 (omega arith),
      w 80 (omega arith),
      m,
      side_same k' k from loader_size b long left_at (omega arith) (omega arith),
      side_same k' k from loader_size b long right_at (omega arith) (omega arith),
    )

finish_back : (k : List ℕ) → ((stream_in k).setup.slot ≡ 0 → ⊥) → (lent : ℕ) → finish_refusal (stream_in k).finished (stream_in k).stream.blocks (stream_in k).stream.last lent ≡ 0
    → writer_in (put_at k 84 (be32 1)) ≡ after_finish (writer_in k)
unfolding after_finish
finish_back k h lent z =
    let there = holds k h in
    let n = be32-length 1 in
    record_back k (put_at k 84 (be32 1)) (marked (stream_in k)) (table_in k cues_at (stream_in k).count) there.room (put_at-length k 84 (be32 1)) (finish_good (writer_in k) lent (kept_good k) z)
    (mark_back k there.room ∙ ap marked (sym there.is))
    (same_after k 84 (be32 1) (omega (arith, there.room)) cues_at loader_size (omega arith)).byte

module _ (k : List ℕ) (lent : List ℕ) where
  pub finish_after : ((stream_in k).setup.slot ≡ 0 → ⊥) → finish_refusal (stream_in k).finished (stream_in k).stream.blocks (stream_in k).stream.last (length lent) ≡ 0
      → writer_in (put_at k 84 (be32 1)) ≡ (finish_of (writer_in k) lent).writer
  unfolding finish_of
  finish_after h z = rw z (finish_back k h (length lent) z)

-- ---- After begin

module _ (k : List ℕ) (room : loader_size ≤ length k) (s : Fields) (t : List Cue) (g : Good (writer_of t s)) (ch : Long s.setup.channels) where
  pub whole_back : SideFits s.stream.left → SideFits s.stream.right → writer_in (put_at k 0 (record_bytes s)) ≡ writer_of (table_in k cues_at s.count) s
  unfolding record_bytes
  whole_back fl fr =
      let lb = side_bytes s.stream.left in
      let rb = side_bytes s.stream.right in
      let bs = number_bytes s ++ (lb ++ rb) in
      let n = numbers_length s in
      let nl : length lb ≡ 48 = side-length s.stream.left fl.typed.coefficients.sixteen in
      let nr : length rb ≡ 48 = side-length s.stream.right fr.typed.coefficients.sixteen in
      let m : length bs ≡ cues_at = length-append (number_bytes s) (lb ++ rb) ∙ omega (arith, length-append lb rb) in
      let a = put-there k 0 bs (omega arith) in
      let sides = at_move left_at (omega arith) (at_right (number_bytes s) (lb ++ rb) a) in
      let left = side-back left_at s.stream.left fl (at_left lb rb sides) in
      let right = side-back right_at s.stream.right fr (at_move right_at (omega arith) (at_right lb rb sides)) in
      record_back k (put_at k 0 bs) s t room (put_at-length k 0 bs) g
      (numbers_back (put_at k 0 bs) s t g ch (at_left (number_bytes s) (lb ++ rb) a) left right)
      (same_after k 0 bs (omega arith) cues_at loader_size (omega arith)).byte

-- the record of an accepted begin
none-fits : SideFits no_block
none-fits =
    record {
      typed = record {
        rate = omega arith;
        addresses = omega arith;
        coefficients = record { sixteen = refl; each = zeros_fit 16 };
        gain = omega arith;
        context = record { scale = omega arith; last = record { sfits = omega arith }; oldest = record { sfits = omega arith } };
      };
      short = omega arith;
    }

module _ (k : List ℕ) (slot ch : ℕ) (mode : Looping) (lent : List ℕ) where
  empty_back : loader_size ≤ length k → Long ch → begin_refusal slot ch (length lent) ≡ 0 → writer_in (put_at k 0 (record_bytes (fields_of (empty_of slot ch mode)))) ≡ empty_of slot ch mode
  unfolding table_in cues_kept
  empty_back room f z =
      whole_back k room (fields_of (empty_of slot ch mode)) (empty_of slot ch mode).table.cues (empty_good slot ch (length lent) mode z) f none-fits none-fits

  pub begin-after : loader_size ≤ length k → Long ch → begin_refusal slot ch (length lent) ≡ 0
      → writer_in (put_at k 0 (record_bytes (fields_of (begin_of slot ch mode lent).writer))) ≡ (begin_of slot ch mode lent).writer
  unfolding begin_of
  begin-after room f z = rw z (empty_back room f z)

  pub begin-sixteen : (length (begin_of slot ch mode lent).writer.stream.left.coefficients ≡ 16) × (length (begin_of slot ch mode lent).writer.stream.right.coefficients ≡ 16)
  unfolding begin_of
  begin-sixteen = by_cases (eqb (begin_refusal slot ch (length lent)) 0) (λ q. rw q (refl, refl)) (λ q. rw q (refl, refl))
