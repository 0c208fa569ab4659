-- Half bytes by their numbers, and the loop that decodes them: what was put and what is still to come are the whole.
use Prim.Native.Nat.{ℕ, zero, suc, ◌+◌, ◌*◌, ◌/◌, ◌%◌, ◌≤◌, ◌<◌}
use mathlib.Core.Path.{◌≡◌, refl, sym, ap, ◌∙◌}
use mathlib.Core.List.{List, [], ◌∷◌, ◌++◌, append_assoc, append-nil}
use native.Mathlib.Omega.{arith}
use native.Mathlib.Numerals.{add-one}
use lib.ListN.{length, get_or, take, drop, set, drop_of_length-le}
use lib.Seq.{take-suc-set, drop-cons, take_all, length-take-le}
use lib.IntN.{ℤ}
use Rattle.adpcm_sample.specs.Sample.{sample}
use Rattle.adpcm_block.specs.Block.{Decoded, halves, context_with, with_sample, halves_decoded}
use Rattle.layout.specs.declared.FrameContext.{FrameContext}

pub length-halves : (bs : List ℕ) → length (halves bs) ≡ 2 * length bs
unfolding halves
length-halves [] = refl
length-halves (b ∷ bs) = omega (arith, length-halves bs)

-- the high half first
pub high_half : (bs : List ℕ) (k : ℕ) → get_or (halves bs) (k + k) 0 ≡ get_or bs k 0 / 16
unfolding halves
high_half [] k = refl
high_half (b ∷ bs) zero = refl
high_half (b ∷ bs) (suc k) = ap (λ (n : ℕ). get_or (halves (b ∷ bs)) n 0) (let h : suc k + suc k ≡ suc (suc (k + k)) = omega arith in h) ∙ high_half bs k

pub low_half : (bs : List ℕ) (k : ℕ) → get_or (halves bs) (suc (k + k)) 0 ≡ get_or bs k 0 % 16
unfolding halves
low_half [] k = refl
low_half (b ∷ bs) zero = refl
low_half (b ∷ bs) (suc k) = ap (λ (n : ℕ). get_or (halves (b ∷ bs)) n 0) (let h : suc (suc k + suc k) ≡ suc (suc (suc (k + k))) = omega arith in h) ∙ low_half bs k

-- by its number
pub half_even : (bs : List ℕ) (i : ℕ) → i % 2 ≡ 0 → get_or bs (i / 2) 0 / 16 ≡ get_or (halves bs) i 0
half_even bs i e = sym (high_half bs (i / 2)) ∙ ap (λ (n : ℕ). get_or (halves bs) n 0) (omega arith)

pub half_odd : (bs : List ℕ) (i : ℕ) → (i % 2 ≡ 0 → ⊥) → get_or bs (i / 2) 0 % 16 ≡ get_or (halves bs) i 0
half_odd bs i e = sym (low_half bs (i / 2)) ∙ ap (λ (n : ℕ). get_or (halves bs) n 0) (omega (arith, e))

-- so many of them
pub counted-halves : (bs : List ℕ) (count : ℕ) → count ≤ 2 * length bs → length (take count (halves bs)) ≡ count
counted-halves bs count h = length-take-le count (halves bs) (simp length-halves h)

-- each half byte is one sample
pub halves-count : (c0 c1 : ℤ) (c : FrameContext) (hs : List ℕ) → length (halves_decoded c0 c1 c hs).samples ≡ length hs
unfolding halves_decoded
halves-count c0 c1 c [] = refl
halves-count c0 c1 c (h ∷ hs) = ap suc (halves-count c0 c1 (with_sample c (sample c0 c1 c.last c.oldest h c.predictor_and_scale)) hs)

-- the decoding of some half bytes, of which i are done
pub record Halving (c0 c1 : ℤ) (hs : List ℕ) (whole : Decoded) (after : List ℤ) (i : ℕ) (c : FrameContext) : Type 0 where
  pub done : take i after ++ (halves_decoded c0 c1 c (drop i hs)).samples ≡ whole.samples
  pub ends : (halves_decoded c0 c1 c (drop i hs)).context ≡ whole.context

module _ {c0 c1 : ℤ} {hs : List ℕ} {whole : Decoded} {after : List ℤ} {i : ℕ} {c : FrameContext} (d : Halving c0 c1 hs whole after i c) where
  pub halving_next : i < length hs → i < length after → {x y : ℤ} → x ≡ sample c0 c1 c.last c.oldest (get_or hs i 0) c.predictor_and_scale → y ≡ c.last
      → Halving c0 c1 hs whole (set after i x) (i + 1) (context_with c.predictor_and_scale x y)
  unfolding halves_decoded
  halving_next l m {x} {y} v w =
      let cut : drop i hs ≡ get_or hs i 0 ∷ drop (i + 1) hs = drop-cons hs i 0 l ∙ ap (λ (n : ℕ). get_or hs i 0 ∷ drop n hs) (sym (add-one i)) in
      record {
        done = ap (λ (n : ℕ). take n (set after i x) ++ (halves_decoded c0 c1 (context_with c.predictor_and_scale x y) (drop (i + 1) hs)).samples) (add-one i)
            ∙ rw (take-suc-set after i x m, append_assoc, w, v) (rw cut at d.done);
        ends = rw (w, v) (rw cut at d.ends);
      }

  pub halving_all : length hs ≤ i → length after ≤ i → (c ≡ whole.context) × (after ≡ whole.samples)
  unfolding halves_decoded
  halving_all l m =
      let none : drop i hs ≡ [] = drop_of_length-le hs l in (
        rw none at d.ends,
        sym (take_all i after m) ∙ sym (append-nil (take i after)) ∙ (rw none at d.done),
      )
