-- Opening of a slot whose byte 15 is zero: which refusal it gives.
use Prim.Native.Nat.{ℕ, ◌<◌, ◌≤◌}
use mathlib.Core.Path.{◌≡◌, ◌∙◌}
use mathlib.Core.Bool.{false}
use mathlib.Core.List.{List}
use mathlib.Core.Logic.{◌⊎◌, inl, inr}
use native.Mathlib.Omega.{arith}
use lib.ListN.{length, take, get_or}
use lib.Dec.{eqb}
use borrow.Author.Tests.{ne_eqb, le-ltb}
use Rattle.layout.specs.Choice.{pick}
use Rattle.layout.specs.Lists.{same}
use Rattle.layout.specs.Records.{u16_at, u32_at, magic, read_magic}
use Rattle.layout.proofs.Cases.{by_cases}
use Rattle.layout.proofs.AtLaws.{field_in}
use Rattle.reader.specs.OpeningAndReading.{Opened, opening}
use Rattle.layout.specs.Refusals.{slot_limit}

not_count : (s : List ℕ) → get_or s 15 0 ≡ 0 → (n : ℕ) → (0 < n) × (n < 256) → u32_at s 12 ≡ n → ⊥
unfolding u32_at u16_at
not_count s z n h e = omega (arith, h.0, h.1)

-- with byte 15 zero the count is a multiple of 256: 3, unless the first eight bytes are wrong
pub refusal : (s : List ℕ) → 16 ≤ length s → length s ≤ slot_limit → get_or s 15 0 ≡ 0
    → opening s ≡ pick (same (take 8 s) magic) (Opened.refused 3) (Opened.refused 2)
unfolding opening read_magic
refusal s long short z =
    let e1 : eqb (u32_at s 12) 1 ≡ false = ne_eqb _ _ (λ e. not_count s z 1 (omega arith) e) in
    let e2 : eqb (u32_at s 12) 2 ≡ false = ne_eqb _ _ (λ e. not_count s z 2 (omega arith) e) in
    rw (le-ltb slot_limit (length s) short)
    (rw (field_in s 8 (take 8 s) (omega arith))
    (by_cases (same (take 8 s) magic)
    (λ t.
    rw t
    (rw (field_in s 12 (u32_at s 8) (omega arith))
    (rw (field_in s 16 (u32_at s 12) (omega arith))
    (rw (e1, e2)))))
    (λ t. rw t)))

-- so it refuses with 2 or 3
pub unfinished : (s : List ℕ) → 16 ≤ length s → length s ≤ slot_limit → get_or s 15 0 ≡ 0 → (opening s ≡ Opened.refused 2) ⊎ (opening s ≡ Opened.refused 3)
unfinished s long short z =
    let r = refusal s long short z in
    by_cases (same (take 8 s) magic) (λ t. inr (r ∙ rw t)) (λ t. inl (r ∙ rw t))
