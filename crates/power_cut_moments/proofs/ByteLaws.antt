-- Lists of bytes, taken apart and joined; as many elements as are there.
use Prim.Native.Nat.{ℕ, ◌+◌, ◌≤◌, min}
use mathlib.Core.Path.{◌≡◌, ap, sym, ◌∙◌}
use mathlib.Core.List.{List, ◌++◌}
use native.Mathlib.Omega.{arith}
use native.Mathlib.Nat.{min-eq_left, min-eq_right}
use lib.ListN.{length, take, drop, length-take, length-drop}
use lib.Seq.{take_all, get_or-take, get_or-drop}
use lib.Dec.{leb}
use borrow.Author.Tests.{leb-true, leb-false}
use Rattle.layout.specs.Lists.{put}
use Rattle.layout.specs.Types.{Bytes}
use Rattle.layout.proofs.Cases.{by_cases}
use Rattle.power_cut.proofs.ElementLaws.{bytes_append}

pub bytes_take : (n : ℕ) (l : List ℕ) → Bytes l → Bytes (take n l)
bytes_take n l b i h =
    let e = length-take n l in
    rw (get_or-take n l i 0 (omega arith)) (b i (omega arith))

pub bytes_drop : (n : ℕ) (l : List ℕ) → Bytes l → Bytes (drop n l)
bytes_drop n l b i h =
    let e = length-drop n l in
    rw (get_or-drop n l i 0) (b (n + i) (omega arith))

pub bytes_put : (s : List ℕ) (at : ℕ) (bs : List ℕ) → Bytes s → Bytes bs → Bytes (put s at bs)
bytes_put s at bs b c =
    bytes_append (take at s ++ bs) (drop (at + length bs) s) (bytes_append (take at s) bs (bytes_take at s b) c) (bytes_drop (at + length bs) s b)

-- As many as are there.
module _ {A : Type 0} (n : ℕ) (l : List A) {m : ℕ} (e : m ≡ min n (length l)) where
  pub same-take : take m l ≡ take n l
  same-take =
      by_cases (leb n (length l))
      (λ t. ap (λ (k : ℕ). take k l) (e ∙ min-eq_left (leb-true n (length l) t)))
      (λ t.
      let h : length l ≤ n = omega (arith, leb-false n (length l) t) in
      let f : m ≡ length l = e ∙ min-eq_right h in
      take_all m l (omega arith) ∙ sym (take_all n l h))
