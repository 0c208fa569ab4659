-- Bytes that are left as they were are read as they were.
use Prim.Native.Nat.{ℕ, ◌+◌, ◌-◌, ◌<◌, ◌≤◌}
use mathlib.Core.Path.{◌≡◌, refl, ap, ◌∙◌}
use mathlib.Core.List.{List, ◌++◌}
use native.Mathlib.Omega.{arith}
use lib.ListN.{length, get_or, take, drop, length-append, get_or-append}
use lib.Seq.{length-take-le, get_or-take, get_or-drop, get_or-append-add}
use Rattle.layout.specs.Lists.{put}
use Rattle.layout.specs.Puts.{put_at}
use Rattle.layout.proofs.PutLaws.{put_at_in, put_at-length}
use Rattle.layout_number_or_zero.specs.NumberOrZero.{word_at, long_at}
use Rattle.c_record.specs.KeptSides.{side_in}
use Rattle.c_record.proofs.SameLaws as sides

-- as many bytes, and the same from one place up to another
pub record Same (s t : List ℕ) (from to : ℕ) : Type 0 where
  pub long : length s ≡ length t
  pub byte : (i : ℕ) → from ≤ i → i < to → get_or s i 0 ≡ get_or t i 0

pub same_then : {s t u : List ℕ} {from to : ℕ} → Same s t from to → Same t u from to → Same s u from to
same_then a b = record { long = a.long ∙ b.long; byte = λ i l h. a.byte i l h ∙ b.byte i l h }

-- ---- What bytes that are put leave

module _ (l : List ℕ) (at : ℕ) (bs : List ℕ) (h : at + length bs ≤ length l) where
  head-length : length (take at l ++ bs) ≡ at + length bs
  head-length = length-append (take at l) bs ∙ omega (arith, length-take-le at l (omega arith))

  pub same-before : (from to : ℕ) → to ≤ at → Same (put_at l at bs) l from to
  same-before from to e =
      record {
        long = put_at-length l at bs;
        byte =
            λ i a b.
            ap (λ (m : List ℕ). get_or m i 0) (put_at_in l at bs h)
            ∙ get_or-append (take at l ++ bs) (drop (at + length bs) l) 0 i (omega (arith, head-length))
            ∙ get_or-append (take at l) bs 0 i (omega (arith, length-take-le at l (omega arith)))
            ∙ get_or-take at l i 0 (omega arith);
      }

  after : (i : ℕ) → at + length bs ≤ i → get_or (put l at bs) i 0 ≡ get_or l i 0
  after i b =
      let n = head-length in
      let e : i ≡ length (take at l ++ bs) + (i - (at + length bs)) = omega arith in
      let f : at + length bs + (i - (at + length bs)) ≡ i = omega arith in
      ap (λ (m : ℕ). get_or (put l at bs) m 0) e
      ∙ get_or-append-add (take at l ++ bs) (drop (at + length bs) l) (i - (at + length bs)) 0
      ∙ get_or-drop (at + length bs) l (i - (at + length bs)) 0
      ∙ ap (λ (m : ℕ). get_or l m 0) f

  pub same_after : (from to : ℕ) → at + length bs ≤ from → Same (put_at l at bs) l from to
  same_after from to e =
      record { long = put_at-length l at bs; byte = λ i a b. ap (λ (m : List ℕ). get_or m i 0) (put_at_in l at bs h) ∙ after i (omega arith) }

-- ---- Numbers and sides

module _ {s t : List ℕ} {from to : ℕ} (a : Same s t from to) where
  pub word_same : (at : ℕ) → from ≤ at → at + 4 ≤ to → word_at s at ≡ word_at t at
  word_same = sides.word_same s t from to a.byte a.long

  pub long_same : (at : ℕ) → from ≤ at → at + 8 ≤ to → long_at s at ≡ long_at t at
  long_same = sides.long_same s t from to a.byte a.long

  pub side_same : (at : ℕ) → from ≤ at → at + 48 ≤ to → side_in s at ≡ side_in t at
  side_same = sides.side_same s t from to a.byte a.long
