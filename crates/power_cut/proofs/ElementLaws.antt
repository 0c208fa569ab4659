-- What holds of every element, of lists that are joined.
use Prim.Native.Nat.{ℕ, zero, suc, ◌+◌, ◌-◌, ◌<◌, ◌≤◌}
use mathlib.Core.Path.{◌≡◌, subst}
use mathlib.Core.List.{List, ◌++◌}
use native.Mathlib.Omega.{arith}
use native.Mathlib.Nat.{le_of_suc-le-suc, not-suc-le-zero}
use lib.ListN.{length, get_or, replicate, length-append, get_or-append}
use lib.Seq.{get_or-append-add}
use lib.Dec.{ltb}
use borrow.Author.Tests.{ltb-true, ltb-false}
use Rattle.layout.specs.Types.{Bytes}
use Rattle.layout.proofs.Cases.{by_cases}

pub bytes_append : (k l : List ℕ) → Bytes k → Bytes l → Bytes (k ++ l)
bytes_append k l a b i h =
    let e = length-append k l in
    by_cases (ltb i (length k))
    (λ t. rw (get_or-append k l 0 i (ltb-true i (length k) t)) (a i (ltb-true i (length k) t)))
    (λ t.
    let g : length k ≤ i = ltb-false i (length k) t in
    let f : length k + (i - length k) ≡ i = omega arith in
    subst (λ (n : ℕ). get_or (k ++ l) n 0 < 256) f (rw (get_or-append-add k l (i - length k) 0) (b (i - length k) (omega arith))))

pub bytes_zeros : (n : ℕ) → Bytes (replicate n 0)
bytes_zeros zero i h = absurd (not-suc-le-zero h)
bytes_zeros (suc n) zero h = omega arith
bytes_zeros (suc n) (suc i) h = bytes_zeros n i (le_of_suc-le-suc h)
