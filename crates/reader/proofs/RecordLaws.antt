-- The opening record: what its type gives, two channels and 512 offsets, and its offsets one by one.
use Prim.Native.Nat.{ℕ, zero, suc, ◌+◌, ◌≤◌, ◌<◌, min}
use mathlib.Core.Path.{◌≡◌, refl, ap, ◌∙◌}
use mathlib.Core.List.{List, [], ◌∷◌}
use native.Mathlib.Omega.{arith}
use native.Mathlib.Numerals.{add-one}
use native.Mathlib.Nat.{le_of_suc-le-suc, not-suc-le-zero}
use lib.ListN.{length, take, drop, get_or, length-take, drop_of_length-le}
use lib.Seq.{drop-cons, get_or-take}
use mir.Val.{Val}
use denote.Laws.{Is}
use Rattle.reader.specs.declared.HpsReader.{HpsReader}
use Rattle.reader.specs.OpeningAndReading.{Readable, offset_in, offsets_from}
use Rattle.reader.specs.contracts.HpsReader as R
use Rattle.layout.specs.Refusals.{block_limit}

pub record Shaped (r : HpsReader) : Type 0 where
  pub channels : length r.channels ≡ 2
  pub offsets : length r.offsets ≡ block_limit

pub shaped : (r : HpsReader) (vs : List Val) → Is R.the_row r vs → Shaped r
shaped r vs is = record {
  channels = is.1.1.1.1.0.1.0.1;
  offsets = is.1.1.1.1.1.1.0.1.0.1;
}

-- the offsets of the blocks from i on: none past the last, else that of block i first
module _ (r : HpsReader) (i : ℕ) where
  pub offsets_past : min r.blocks (length r.offsets) ≤ i → offsets_from r i ≡ []
  offsets_past h = drop_of_length-le (take r.blocks r.offsets) {i = i} (simp length-take (omega arith))

  pub offsets_next : i < min r.blocks (length r.offsets) → offsets_from r i ≡ offset_in r i ∷ offsets_from r (i + 1)
  offsets_next h =
      let l : i < length (take r.blocks r.offsets) = simp length-take (omega arith) in
      let b : i < r.blocks = omega arith in
      rw (add-one i) (drop-cons (take r.blocks r.offsets) i 0 l ∙ ap (λ (o : ℕ). o ∷ drop (suc i) (take r.blocks r.offsets)) (get_or-take r.blocks r.offsets i 0 b))

  -- of a record that can be read it is its number of blocks that counts
  pub offsets_none : r.blocks ≤ i → offsets_from r i ≡ []
  offsets_none h = offsets_past (omega arith)

  pub offsets_more : Shaped r → Readable r → i < r.blocks → offsets_from r i ≡ offset_in r i ∷ offsets_from r (i + 1)
  offsets_more shape ok h = offsets_next (omega (arith, shape.offsets, ok.blocks))

-- an element, whatever stands beyond the list's end
pub element : {A : Type 0} (l : List A) (i : ℕ) (d d' : A) → i < length l → get_or l i d ≡ get_or l i d'
element [] i d d' h = absurd (not-suc-le-zero h)
element (x ∷ xs) zero d d' h = refl
element (x ∷ xs) (suc i) d d' h = element xs i d d' (le_of_suc-le-suc h)
