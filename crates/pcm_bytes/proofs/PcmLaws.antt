-- Samples put as bytes, one after the other.
use Prim.Native.Nat.{ℕ, ◌+◌, ◌-◌, ◌*◌, ◌/◌, ◌%◌, ◌<◌}
use mathlib.Core.Path.{◌≡◌, refl, ap, ◌∙◌}
use mathlib.Core.List.{List, [], ◌∷◌, ◌++◌, append_assoc}
use native.Mathlib.Omega.{arith}
use native.Mathlib.Numerals.{add-one}
use borrow.Rule.Slice.PartMut.{put_mid}
use lib.ListN.{length, get_or, take, drop}
use lib.Seq.{take_at, drop_at, length-take-le, take-suc, drop-drop}
use lib.IntN.{ℤ, pos}
use mir.Syntax.{w16}
use mir.Val.{SFits, of_z, to_z}
use mir.Facts.{Fits-of_z, to_z-of_z}
use Rattle.std.specs.Int.{to_le_bytes}
use Rattle.pcm_bytes.specs.Pcm.{pcm_bytes}

-- each sample has two bytes
pub pcm_length : (xs : List ℤ) → length (pcm_bytes xs) ≡ 2 * length xs
unfolding pcm_bytes
pcm_length [] = refl
pcm_length (x ∷ xs) = omega (arith, pcm_length xs)

-- samples behind samples
pub pcm_append : (xs ys : List ℤ) → pcm_bytes (xs ++ ys) ≡ pcm_bytes xs ++ pcm_bytes ys
unfolding pcm_bytes
pcm_append [] ys = refl
pcm_append (x ∷ xs) ys = ap (λ (l : List ℕ). of_z w16 x % 256 ∷ of_z w16 x / 256 ∷ l) (pcm_append xs ys)

-- one more sample, whose two bytes come after those of the first i
pub pcm_more : (xs : List ℤ) (before : List ℕ) (i : ℕ) {out part : List ℕ} → i < length xs → SFits w16 (get_or xs i (pos 0))
    → out ≡ pcm_bytes (take i xs) ++ drop (2 * i) before
    → part ≡ to_le_bytes w16 (of_z w16 (to_z w16 (of_z w16 (get_or xs i (pos 0)))))
    → put_mid (2 * i) (2 * i + 2 - 2 * i) out part ≡ pcm_bytes (take (i + 1) xs) ++ drop (2 * (i + 1)) before
unfolding pcm_bytes
pcm_more xs before i {out} {part} lt fits e p =
    let x = get_or xs i (pos 0) in
    let long : length (pcm_bytes (take i xs)) ≡ 2 * i = pcm_length (take i xs) ∙ ap (λ (n : ℕ). 2 * n) (length-take-le i xs (omega arith)) in
    let two : 2 * i + 2 - 2 * i ≡ 2 = omega arith in
    let high : of_z w16 x / 256 % 256 ≡ of_z w16 x / 256 = let f = Fits-of_z fits in omega (arith, f.fits) in
    let front : take (2 * i) out ≡ pcm_bytes (take i xs) = ap (take (2 * i)) e ∙ take_at _ _ _ long in
    let back : drop (2 * i) out ≡ drop (2 * i) before = ap (drop (2 * i)) e ∙ drop_at _ _ _ long in
    let next : 2 * (i + 1) ≡ 2 * i + 2 = omega arith in
    rw (two, front, back, p, to_z-of_z fits, high, next, add-one i, take-suc xs i (pos 0) lt, pcm_append, drop-drop 2 (2 * i) before) (simp append_assoc)
