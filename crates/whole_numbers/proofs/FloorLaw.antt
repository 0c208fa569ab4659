-- floor_div is the division rounded down: z = floor_div z m * m + r, where 0 <= r < m.
use Prim.Native.Nat.{ℕ, zero, suc, ◌+◌, ◌*◌, ◌-◌, ◌/◌, ◌%◌, ◌<◌}
use mathlib.Core.Path.{◌≡◌, sym, ap}
use native.Mathlib.Nat.{div-add-mod', mod-lt, suc-mul}
use native.Mathlib.Omega.{arith}
use borrow.Author.Tests.{lt-ltb}
use lib.IntN.{ℤ, pos, negsuc, neg_ℤ, ◌+ℤ◌}
use Rattle.whole_numbers.specs.Whole.{floor_div, QuotientDown}

-- -p + r, where p is above r
minus : (p r n : ℕ) → n + suc r ≡ p → negsuc n ≡ neg_ℤ (pos p) +ℤ pos r
minus zero r n e = absurd (omega arith)
minus (suc p) r n e = rw (lt-ltb r (suc p) (omega arith)) (ap negsuc (omega arith))

pub floor_law : (z : ℤ) (m : ℕ) → 0 < m → QuotientDown z m (floor_div z m)
unfolding floor_div
floor_law (pos n) m h = record { rest = n % m; below = mod-lt n h; whole = ap pos (sym (div-add-mod' n m)) }
floor_law (negsuc n) m h =
    let l = mod-lt n h in
    record {
      rest = m - suc (n % m);
      below = omega arith;
      whole = minus (suc (n / m) * m) (m - suc (n % m)) n (omega (arith, div-add-mod' n m, suc-mul (n / m) m));
    }
