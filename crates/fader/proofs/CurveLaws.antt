-- A table's rule, shown at all of its entries at once; and a bound on the curve's.
use Prim.Native.Nat.{ℕ, zero, suc, ◌+◌, ◌*◌, ◌≤◌, ◌<◌}
use mathlib.Core.Path.{◌≡◌, ap, ◌∙◌}
use mathlib.Core.List.{List, [], ◌∷◌}
use native.Mathlib.Nat.{le_of_suc-le-suc, not-suc-le-zero}
use native.Mathlib.Omega.{arith}
use lib.ListN.{get_or}
use Rattle.whole_numbers.proofs.WholeLaws.{mul_bound}
use Rattle.fader.specs.Fader.{level_limit, curve_entry}

-- f from, f (from + 1), .. n of them: the one computed test is that a table is this list, from 0 on. It counts up, so that few steps compute it and the
-- checker tells the number that a wrong table has.
abbrev pub listed : (f : ℕ → ℕ) → (from n : ℕ) → List ℕ
listed f from zero = []
listed f from (suc n) = f from ∷ listed f (suc from) n

rule_from : (f : ℕ → ℕ) (from n k : ℕ) → k < n → get_or (listed f from n) k 0 ≡ f (from + k)
rule_from f from zero k h = absurd (not-suc-le-zero h)
rule_from f from (suc n) zero h = ap f (omega arith)
rule_from f from (suc n) (suc k) h = rule_from f (suc from) n k (le_of_suc-le-suc h) ∙ ap f (omega arith)

-- The test gives the rule at each entry.
pub rule : (f : ℕ → ℕ) (n k : ℕ) → k < n → get_or (listed f 0 n) k 0 ≡ f k
rule f n k h = rule_from f 0 n k h ∙ ap f (omega arith)

pub square_bound : {k : ℕ} → k ≤ level_limit → k * k ≤ level_limit * level_limit
square_bound h = mul_bound h h

pub entry_bound : (k : ℕ) → k ≤ level_limit → curve_entry k ≤ 32768
unfolding curve_entry
entry_bound k h = let s = square_bound h in omega arith
