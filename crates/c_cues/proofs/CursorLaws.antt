-- A cursor in bytes: read, and put number by number.
use Prim.Native.Nat.{ℕ, ◌+◌, ◌≤◌, ◌<◌}
use mathlib.Core.Path.{◌≡◌, refl, ap, ◌∙◌}
use mathlib.Core.Bool.{Bool, true, false, ◌&&◌}
use mathlib.Core.List.{List, [], ◌++◌}
use native.Mathlib.Omega.{arith}
use lib.ListN.{length, drop, replicate}
use lib.Dec.{eqb}
use Rattle.layout.specs.Choice.{pick, ◌and◌}
use Rattle.layout.specs.Puts.{put_at}
use Rattle.layout.specs.Records.{u16_at, u32_at, be32}
use Rattle.layout.proofs.AtLaws.{At, at_left, at_right, at_move}
use Rattle.layout.proofs.Lengths.{be32-length}
use Rattle.layout.proofs.PutLaws.{Put, put_then, put_at_in}
use Rattle.reader.specs.declared.HpsReader.{HpsReader}
use Rattle.reader.specs.declared.CueIterator.{CueIterator}
use Rattle.reader.specs.CuesReadBack.{cursor, looped, first_cursor}
use Rattle.layout_number_or_zero.specs.NumberOrZero.{word_at, long_at}
use Rattle.c_opened.specs.KeptReader.{be64, put_long}
use Rattle.c_opened.proofs.LongLaws.{be64-length, put_long-length, long-put, word_back, long-back}
use Rattle.c_cues.specs.KeptCues.{cursor_in, cursor_bytes, CursorFits, put_cursor}
use Rattle.layout.proofs.Cases.{both}

pub cursor_read : (r : HpsReader) (bs : List ℕ) {block place base word : ℕ} {first : CueIterator} → first ≡ first_cursor r → block ≡ long_at bs 0 → place ≡ long_at bs 8 → base ≡ long_at bs 16
    → word ≡ word_at bs 24 → cursor block place base (first.due && eqb word 0) ≡ cursor_in r bs
unfolding cursor_in
cursor_read r bs f e1 e2 e3 e4 = rw (f, e1, e2, e3, e4, both)

module _ (l : List ℕ) (c : CueIterator) where
  longs_put : {l1 l2 l3 : List ℕ} → l1 ≡ put_long l 0 c.block → l2 ≡ put_long l1 8 c.place → l3 ≡ put_long l2 16 c.base
      → l3 ≡ put_long (put_long (put_long l 0 c.block) 8 c.place) 16 c.base
  longs_put e1 e2 e3 = e3 ∙ ap (λ (b : List ℕ). put_long b 16 c.base) (e2 ∙ ap (λ (b : List ℕ). put_long b 8 c.place) e1)

  pub due-put : {l1 l2 l3 l4 : List ℕ} → l1 ≡ put_long l 0 c.block → l2 ≡ put_long l1 8 c.place → l3 ≡ put_long l2 16 c.base → c.due ≡ true → l4 ≡ put_at l3 24 (be32 0)
      → l4 ≡ put_cursor l c
  unfolding put_cursor
  due-put e1 e2 e3 d e4 = rw d (e4 ∙ ap (λ (b : List ℕ). put_at b 24 (be32 0)) (longs_put e1 e2 e3))

  pub passed_put : {l1 l2 l3 l4 : List ℕ} → l1 ≡ put_long l 0 c.block → l2 ≡ put_long l1 8 c.place → l3 ≡ put_long l2 16 c.base → c.due ≡ false → l4 ≡ put_at l3 24 (be32 1)
      → l4 ≡ put_cursor l c
  unfolding put_cursor
  passed_put e1 e2 e3 d e4 = rw d (e4 ∙ ap (λ (b : List ℕ). put_at b 24 (be32 1)) (longs_put e1 e2 e3))

  -- where there is room the numbers are the cursor's bytes
  pub cursor-put : 28 ≤ length l → put_cursor l c ≡ put_at l 0 (cursor_bytes c)
  unfolding put_cursor cursor_bytes
  cursor-put h =
      let l1 = put_long l 0 c.block in
      let l2 = put_long l1 8 c.place in
      let n1 = put_long-length l 0 c.block in
      let n2 = put_long-length l1 8 c.place in
      let p : Put l 0 8 (be64 c.block) l1 = record { size = be64-length _; is = long-put l 0 c.block (omega arith) } in
      let q = put_then p (be64 c.place) (be64-length _) (long-put l1 8 c.place (omega arith)) refl (omega arith) in
      let r = put_then q (be64 c.base) (be64-length _) (long-put l2 16 c.base (omega arith)) refl (omega arith) in
      (put_then r (be32 (pick c.due 0 1)) (be32-length _) refl refl (omega arith)).is

  -- and they are read back
  pub cursor-back : (r : HpsReader) → CursorFits r c → 28 ≤ length l → cursor_in r (put_at l 0 (cursor_bytes c)) ≡ c
  unfolding cursor_in cursor_bytes
  cursor-back r f h =
      let bs = be64 c.block ++ be64 c.place ++ be64 c.base ++ be32 (pick c.due 0 1) in
      let n : length bs ≡ 28 = unfold be64 be32 in refl in
      let a : At (put_at l 0 bs) 0 bs = record { before = []; rest = drop (0 + length bs) l; long = refl; is = put_at_in l 0 bs (omega arith) } in
      let a3 = at_left (be64 c.block ++ be64 c.place ++ be64 c.base) (be32 (pick c.due 0 1)) a in
      let a2 = at_left (be64 c.block ++ be64 c.place) (be64 c.base) a3 in
      let n3 : length (be64 c.block ++ be64 c.place ++ be64 c.base) ≡ 24 = unfold be64 be32 in refl in
      let n2 : length (be64 c.block ++ be64 c.place) ≡ 16 = unfold be64 be32 in refl in
      let e1 : long_at (put_at l 0 bs) 0 ≡ c.block = long-back 0 f.block (at_left (be64 c.block) (be64 c.place) a2) in
      let e2 : long_at (put_at l 0 bs) 8 ≡ c.place = long-back 8 f.place (at_move 8 (omega (arith, be64-length c.block)) (at_right (be64 c.block) (be64 c.place) a2)) in
      let e3 : long_at (put_at l 0 bs) 16 ≡ c.base = long-back 16 f.base (at_move 16 (omega arith) (at_right (be64 c.block ++ be64 c.place) (be64 c.base) a3)) in
      let e4 : word_at (put_at l 0 bs) 24 ≡ pick c.due 0 1 =
      word_back 24 (zero_or_one c.due) (at_move 24 (omega arith) (at_right (be64 c.block ++ be64 c.place ++ be64 c.base) (be32 (pick c.due 0 1)) a)) in
      rw (e1, e2, e3, e4) (due-back c.due (looped r.loop_start) f.due)
    where
      zero_or_one : (d : Bool) → pick d 0 1 < 4294967296
      zero_or_one true = omega arith
      zero_or_one false = omega arith

      due-back : (d m : Bool) → (d ≡ true → m ≡ true) → cursor c.block c.place c.base (m and eqb (pick d 0 1) 0) ≡ cursor c.block c.place c.base d
      due-back true m g = rw (g refl)
      due-back false true g = refl
      due-back false false g = refl

-- zeros are the first cursor
pub zeros_first : (r : HpsReader) → cursor_in r (replicate 32 0) ≡ first_cursor r
unfolding cursor_in long_at word_at u32_at u16_at
zeros_first r = looped_or_not (looped r.loop_start)
  where
    looped_or_not : (m : Bool) → cursor 0 0 0 (m and eqb 0 0) ≡ cursor 0 0 0 m
    looped_or_not true = refl
    looped_or_not false = refl
