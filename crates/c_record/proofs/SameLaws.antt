-- The same bytes stand for the same numbers, sides and cues.
use Prim.Native.Nat.{ℕ, zero, suc, ◌+◌, ◌*◌, ◌≤◌}
use mathlib.Core.Path.{◌≡◌, refl}
use mathlib.Core.List.{List}
use native.Mathlib.Omega.{arith}
use lib.ListN.{length}
use Rattle.layout_number_or_zero.specs.NumberOrZero.{half_at, signed_at, word_at, long_at}
use Rattle.c_opened.proofs.ReadBackLaws.{Agree, u16_same, u32_same}
use Rattle.c_record.specs.KeptSides.{signed_from, side_in, cue_in, cues_kept, table_in, side_size}

module _ (s t : List ℕ) (from to : ℕ) (a : Agree s t from to) (long : length s ≡ length t) where
  pub word_same : (at : ℕ) → from ≤ at → at + 4 ≤ to → word_at s at ≡ word_at t at
  unfolding word_at
  word_same at l h = rw (long, u32_same s t from to a at l h)

  pub long_same : (at : ℕ) → from ≤ at → at + 8 ≤ to → long_at s at ≡ long_at t at
  unfolding long_at
  long_same at l h = rw (long, u32_same s t from to a at l (omega arith), u32_same s t from to a (at + 4) (omega arith) (omega arith))

  half_same : (at : ℕ) → from ≤ at → at + 2 ≤ to → half_at s at ≡ half_at t at
  unfolding half_at
  half_same at l h = rw (long, u16_same s t from to a at l h)

  signed_same : (at : ℕ) → from ≤ at → at + 2 ≤ to → signed_at s at ≡ signed_at t at
  unfolding signed_at
  signed_same at l h = rw (long, u16_same s t from to a at l h)

  some_same : (n at : ℕ) → from ≤ at → at + 2 * n ≤ to → signed_from s at n ≡ signed_from t at n
  unfolding signed_from
  some_same zero at l h = refl
  some_same (suc n) at l h = rw (signed_same at l (omega arith), some_same n (at + 2) (omega arith) (omega arith))

  pub side_same : (at : ℕ) → from ≤ at → at + side_size ≤ to → side_in s at ≡ side_in t at
  unfolding side_in
  side_same at l h =
      rw (
        word_same at l (omega arith),
        word_same (at + 4) (omega arith) (omega arith),
        some_same 16 (at + 8) (omega arith) (omega arith),
        half_same (at + 40) (omega arith) (omega arith),
        half_same (at + 42) (omega arith) (omega arith),
        signed_same (at + 44) (omega arith) (omega arith),
        signed_same (at + 46) (omega arith) (omega arith),
      )

  cue-same : (at : ℕ) → from ≤ at → at + 24 ≤ to → cue_in s at ≡ cue_in t at
  unfolding cue_in
  cue-same at l h =
      rw (long_same at l (omega arith), long_same (at + 8) (omega arith) (omega arith), word_same (at + 16) (omega arith) (omega arith), word_same (at + 20) (omega arith) (omega arith))

  cues-same : (n at : ℕ) → from ≤ at → at + 24 * n ≤ to → cues_kept s at n ≡ cues_kept t at n
  unfolding cues_kept
  cues-same zero at l h = refl
  cues-same (suc n) at l h = rw (cue-same at l (omega arith), cues-same n (at + 24) (omega arith) (omega arith))

  pub table_same : (n at : ℕ) → from ≤ at → at + 24 * n ≤ to → table_in s at n ≡ table_in t at n
  unfolding table_in
  table_same n at l h = rw (cues-same n at l h)
