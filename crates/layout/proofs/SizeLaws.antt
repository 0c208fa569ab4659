-- Sizes: what a saturated number is, and the alignment of every length that a slot can have.
use Prim.Native.Nat.{ℕ, ◌+◌, ◌*◌, ◌/◌, ◌≤◌, ◌<◌}
use mathlib.Core.Path.{◌≡◌}
use native.Mathlib.Omega.{arith}
use borrow.Author.Tests.{le-leb, lt-leb}
use Rattle.layout.specs.Records.{padded_size}
use Rattle.layout.specs.Sizes.{usize_max, saturated}

pub saturated-fits : (n : ℕ) → n ≤ usize_max → saturated n ≡ n
unfolding saturated
saturated-fits n h = rw (le-leb n usize_max h)

pub saturated_over : (n : ℕ) → usize_max < n → saturated n ≡ usize_max
unfolding saturated
saturated_over n h = rw (lt-leb n usize_max h)

-- P(n) itself, as long as n is no more than 2^63
pub aligned : (n : ℕ) → n ≤ 9223372036854775808 → saturated (padded_size n) ≡ padded_size n
unfolding padded_size
aligned n h = saturated-fits ((n + 31) / 32 * 32) (omega arith)
