-- The loop of addresses remaining: its invariant, and what each way out of it answers.
use Rattle.std.proofs.Common.{drop-cons}
use Rattle.std.proofs.lemmas.List.{drop-take}
use Rattle.std.proofs.lemmas.Bool.{cases_lt}
use mathlib.Core.Logic.{⊎_elim}
use Prim.Native.Nat.{ℕ, ◌+◌, ◌-◌, ◌*◌, ◌≤◌, ◌<◌, min}
use mathlib.Core.Path.{◌≡◌, refl, sym, ap, ◌∙◌}
use mathlib.Core.List.{List, ◌∷◌}
use native.Mathlib.Omega.{arith}
use native.Mathlib.Numerals.{add-one}
use lib.ListN.{length, drop, take, get_or, length-take, drop_of_length-le}
use Rattle.layout.specs.Records.{Read, read_header, length_in}
use Rattle.layout.specs.declared.BlockHeader.{BlockHeader}
use Rattle.reader.specs.declared.HpsReader.{HpsReader}
use Rattle.reader.specs.OpeningAndReading.{Remaining, refused, addresses, plus, offsets_from, lengths_at}

-- the offsets from a position on, as they are sliced
pub sliced : (r : HpsReader) (position : ℕ) {from : ℕ} → from ≡ min position r.blocks → offsets_from r position ≡ take (r.blocks - from) (drop from r.offsets)
sliced r position {from} e = ⊎_elim (λ h. past h) (λ h. within h) (cases_lt r.blocks position)
  where
    within : position ≤ r.blocks → offsets_from r position ≡ take (r.blocks - from) (drop from r.offsets)
    within h =
        let m : from ≡ position = omega arith in
        let n : position + (r.blocks - position) ≡ r.blocks = omega arith in
        rw m (ap (λ (n : ℕ). drop position (take n r.offsets)) (sym n) ∙ drop-take position (r.blocks - position) r.offsets)

    past : r.blocks < position → offsets_from r position ≡ take (r.blocks - from) (drop from r.offsets)
    past h =
        let m : r.blocks - from ≡ 0 = omega arith in
        rw m (drop_of_length-le (take r.blocks r.offsets) {i = position} (simp length-take (omega arith)))

plus_none : (x : Remaining) → x ≡ plus 0 x
plus_none (refused n) = refl
plus_none (addresses n) = ap addresses (omega arith)

plus-plus : (a b : ℕ) (x : Remaining) → plus a (plus b x) ≡ plus (a + b) x
plus-plus a b (refused n) = refl
plus-plus a b (addresses n) = ap addresses (omega arith)

-- the sum so far and what is still to be summed come to the whole
pub record Summing (s offsets : List ℕ) (i sum : ℕ) : Type 0 where
  pub few : sum ≤ i * 4294967296
  pub same : lengths_at s offsets ≡ plus sum (lengths_at s (drop i offsets))

module _ {s offsets : List ℕ} {i sum : ℕ} (w : Summing s offsets i sum) where
  pub summed : length offsets ≤ i → addresses sum ≡ lengths_at s offsets
  unfolding lengths_at
  summed h = rw (w.same, drop_of_length-le offsets {i = i} h) (ap addresses (omega arith))

  module _ (h : i < length offsets) where
    more : lengths_at s offsets ≡ plus sum (lengths_at s (get_or offsets i 0 ∷ drop (i + 1) offsets))
    more = rw (add-one i) (w.same ∙ ap (λ (os : List ℕ). plus sum (lengths_at s os)) (drop-cons offsets i 0 h))

    pub sum_refused : {n : ℕ} → Read.refused n ≡ read_header s (get_or offsets i 0) → refused n ≡ lengths_at s offsets
    unfolding lengths_at
    sum_refused e = rw more (rw (← e))

    pub sum_more : {b : BlockHeader} → Read.value b ≡ read_header s (get_or offsets i 0) → b.end_address + 1 ≤ 4294967296 → Summing s offsets (i + 1) (sum + length_in b)
    unfolding lengths_at
    sum_more {b} e l = record { few = omega (arith, w.few); same = more ∙ rw (← e) (plus-plus sum (length_in b) (lengths_at s (drop (i + 1) offsets))) }
