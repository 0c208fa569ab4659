-- Opening field by field: what a refusal after the fields so far comes to, and what the record.
use Prim.Native.Nat.{ℕ, zero, suc, ◌-◌, ◌≤◌}
use mathlib.Core.Path.{◌≡◌, ap, ◌∙◌}
use mathlib.Core.Bool.{true, false}
use mathlib.Core.List.{List, [], ◌++◌}
use native.Mathlib.Omega.{arith}
use lib.ListN.{length, drop, replicate}
use borrow.Author.Tests.{le-ltb}
use Rattle.layout.specs.Records.{u32_at, Read, field, read_channel, read_magic, first_block_offset}
use Rattle.layout.specs.Refusals.{wrong_count, block_limit, slot_limit}
use Rattle.layout.specs.declared.Channel.{Channel}
use Rattle.reader.specs.OpeningAndReading.{Walked, walk_from, Opened, on_walk, made, opening}
use Rattle.reader_open.specs.declared.walk.Walk.{Walk}
use Rattle.reader_open.specs.WalkAnswers.{walk_of, walked_over, in_use}

-- ---- The walk

drop_zeros : (k n : ℕ) → ◌≡◌ {A = List ℕ} (drop k (replicate n 0)) (replicate (n - k) 0)
drop_zeros zero n = let e : n ≡ n - 0 = omega arith in ap (λ (m : ℕ). replicate {A = ℕ} m 0) e
drop_zeros (suc k) zero = let e : 0 ≡ 0 - suc k = omega arith in ap (λ (m : ℕ). replicate {A = ℕ} m 0) e
drop_zeros (suc k) (suc n) = let e : n - k ≡ suc n - suc k = omega arith in drop_zeros k n ∙ ap (λ (m : ℕ). replicate {A = ℕ} m 0) e

-- what a walk over zeros leaves: the offsets, "zeros beyond"
zeros_beyond : (os : List ℕ) (n : ℕ) → os ++ drop (length os) (replicate n 0) ≡ os ++ replicate (n - length os) 0
zeros_beyond os n = ap (λ (l : List ℕ). os ++ l) (drop_zeros (length os) n)

module _ (rate count : ℕ) (l r : Channel) where
  walk_ends : (x : Walked) {w : Walk} {os : List ℕ} → Read.value w ≡ walk_of x → os ≡ walked_over (replicate block_limit 0) x
      → Opened.opened (record { rate = rate; count = count; channels = in_use count l r; blocks = w.count; offsets = os; loop_start = w.loop_start })
      ≡ on_walk x (λ os start. Opened.opened (made rate count l r os start))
  unfolding made walked_over
  walk_ends (Walked.refused n) e d = absurd cc
  walk_ends (Walked.walked os start) {w} e d =
      let f : w ≡ record { loop_start = start; count = length os } = cc in
      rw (f, d, zeros_beyond os block_limit)

  walk_refused : (x : Walked) {n : ℕ} → Read.refused n ≡ walk_of x → Opened.refused n ≡ on_walk x (λ os start. Opened.opened (made rate count l r os start))
  walk_refused (Walked.refused k) {n} e = let f : n ≡ k = cc in ap Opened.refused f
  walk_refused (Walked.walked os start) e = absurd cc

-- ---- Field by field

module _ (s : List ℕ) (short : length s ≤ slot_limit) where
  pub magic_out : {n : ℕ} → Read.refused n ≡ read_magic s → Opened.refused n ≡ opening s
  unfolding opening
  magic_out e = rw (le-ltb slot_limit (length s) short, ← e)

  module _ {m : List ℕ} (magic : Read.value m ≡ read_magic s) where
    pub rate_out : {n : ℕ} → Read.refused n ≡ field s 12 (u32_at s 8) → Opened.refused n ≡ opening s
    unfolding opening
    rate_out e = rw (le-ltb slot_limit (length s) short, ← magic, ← e)

    module _ {rate : ℕ} (a : Read.value rate ≡ field s 12 (u32_at s 8)) where
      pub count_out : {n : ℕ} → Read.refused n ≡ field s 16 (u32_at s 12) → Opened.refused n ≡ opening s
      unfolding opening
      count_out e = rw (le-ltb slot_limit (length s) short, ← magic, ← a, ← e)

      module _ {count : ℕ} (b : Read.value count ≡ field s 16 (u32_at s 12)) where
        pub no_such_count : wrong_count count ≡ true → Opened.refused 3 ≡ opening s
        unfolding opening
        no_such_count e = rw (le-ltb slot_limit (length s) short, ← magic, ← a, ← b, e)

        module _ (right : wrong_count count ≡ false) where
          pub left_out : {n : ℕ} → Read.refused n ≡ read_channel s 16 → Opened.refused n ≡ opening s
          unfolding opening
          left_out e = rw (le-ltb slot_limit (length s) short, ← magic, ← a, ← b, right, ← e)

          module _ {l : Channel} (c : Read.value l ≡ read_channel s 16) where
            pub right_out : {n : ℕ} → Read.refused n ≡ read_channel s 72 → Opened.refused n ≡ opening s
            unfolding opening
            right_out e = rw (le-ltb slot_limit (length s) short, ← magic, ← a, ← b, right, ← c, ← e)

            module _ {r : Channel} (d : Read.value r ≡ read_channel s 72) where
              pub walk_out : {n : ℕ} → Read.refused n ≡ walk_of (walk_from block_limit s [] first_block_offset) → Opened.refused n ≡ opening s
              unfolding opening
              walk_out e =
                  rw (le-ltb slot_limit (length s) short, ← magic, ← a, ← b, right, ← c, ← d)
                  (walk_refused rate count l r (walk_from block_limit s [] first_block_offset) e)

              pub record_is : {w : Walk} {os : List ℕ} {cs : List Channel} → Read.value w ≡ walk_of (walk_from block_limit s [] first_block_offset)
                  → os ≡ walked_over (replicate block_limit 0) (walk_from block_limit s [] first_block_offset) → cs ≡ in_use count l r
                  → Opened.opened (record { rate = rate; count = count; channels = cs; blocks = w.count; offsets = os; loop_start = w.loop_start }) ≡ opening s
              unfolding opening
              record_is e f g =
                  rw (le-ltb slot_limit (length s) short, ← magic, ← a, ← b, right, ← c, ← d, g)
                  (walk_ends rate count l r (walk_from block_limit s [] first_block_offset) e f)
