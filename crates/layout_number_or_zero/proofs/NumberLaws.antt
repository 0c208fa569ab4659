-- Numbers that read as 0 where they are not wholly there.
use Prim.Native.Nat.{ℕ, ◌+◌, ◌*◌, ◌≤◌, ◌<◌}
use mathlib.Core.Path.{◌≡◌, sym, ◌∙◌}
use mathlib.Core.List.{List}
use native.Mathlib.Omega.{arith}
use lib.ListN.{length}
use lib.Dec.{leb}
use borrow.Author.Tests.{le-leb, lt-leb}
use Rattle.layout.specs.Choice.{pick}
use Rattle.std.specs.Prelude.{Result, Ok, Err}
use Rattle.std.specs.Result.{result_unwrap_or}
use Rattle.layout.specs.Records.{u32_at, field}
use Rattle.layout.specs.Answers.{says}
use Rattle.layout.specs.declared.refusal.Refusal.{Refusal}
use Rattle.layout.proofs.FieldLaws.{got, missed}
use Rattle.layout_number_or_zero.specs.NumberOrZero.{word_at, long_at}

module _ {A : Type 0} (s : List ℕ) (past : ℕ) (a zero : A) where
  pub number_in : past ≤ length s → pick (leb past (length s)) a zero ≡ a
  number_in h = rw (le-leb past (length s) h)

  pub number_out : length s < past → pick (leb past (length s)) a zero ≡ zero
  number_out h = rw (lt-leb past (length s) h)

-- a field that was read, or 0 in its place
pub number_read : {A : Type 0} (s : List ℕ) (past : ℕ) (a zero : A) (r : Result A Refusal) → says r ≡ field s past a → result_unwrap_or r zero ≡ pick (leb past (length s)) a zero
number_read s past a zero (Ok x) e = let g = got e in g.is ∙ sym (number_in s past a zero g.inside)
number_read s past a zero (Err x) e = let m = missed e in sym (number_out s past a zero m.outside)

pub word_in : (s : List ℕ) (at : ℕ) → at + 4 ≤ length s → word_at s at ≡ u32_at s at
unfolding word_at
word_in s at = number_in s (at + 4) (u32_at s at) 0

-- where it is wholly there so are its halves
pub long_in : (s : List ℕ) (at : ℕ) → at + 8 ≤ length s → long_at s at ≡ word_at s at * 4294967296 + word_at s (at + 4)
unfolding long_at
long_in s at h = rw (le-leb (at + 8) (length s) h, word_in s at (omega arith), word_in s (at + 4) (omega arith))

pub long_out : (s : List ℕ) (at : ℕ) → length s < at + 8 → long_at s at ≡ 0
unfolding long_at
long_out s at = number_out s (at + 8) (u32_at s at * 4294967296 + u32_at s (at + 4)) 0
