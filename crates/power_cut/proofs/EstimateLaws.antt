-- The estimate is not below the last block's end.
use Prim.Native.Nat.{ℕ, ◌+◌, ◌*◌, ◌≤◌}
use mathlib.Core.Path.{◌≡◌, refl, ap, sym, ◌∙◌}
use mathlib.Core.Bool.{false}
use mathlib.Core.List.{List, map}
use mathlib.Core.Logic.{◌⊎◌, ⊎_elim}
use native.Mathlib.Omega.{arith}
use borrow.Author.Tests.{le-ltb, eq-eqb, ne_eqb}
use lib.ListN.{length, length-map}
use Rattle.layout.specs.Lists.{sum}
use Rattle.layout.specs.Records.{padded_size, adpcm_bytes, alignment, block_header_size}
use Rattle.layout.specs.Refusals.{first_due, wrong_count, block_limit}
use Rattle.writer.specs.Loading.{accepted, length_of, points, data_size}
use Rattle.writer.specs.Estimate.{lengths_due, estimate_refusal, estimated, estimate_of}
use Rattle.power_cut.specs.LoadingBook.{Block, Book, end_of, end_of_blocks}
use Rattle.power_cut.specs.PowerCut.{estimates}
use Rattle.power_cut.proofs.Invariant.{named_by, BlockOk, Chained, Invariant}
use Rattle.power_cut.proofs.ListLaws.{end_from, next_end}

abbrev lengths : List Block → List ℕ
lengths bs = map (λ k. length_of k.push) bs

-- ---- It is accepted

right_count : (ch : ℕ) → (ch ≡ 1) ⊎ (ch ≡ 2) → wrong_count ch ≡ false
right_count ch c = ⊎_elim (λ e. rw e) (λ e. rw e) c

none-due : {ch o a : ℕ} {bs : List Block} → Chained ch o a bs → first_due (lengths_due ch (lengths bs)) ≡ 0
unfolding first_due lengths_due
none-due Chained.none = refl
none-due (Chained.more {k = k} e f ok c) = rw (le-ltb (length_of k.push) 2 ok.least) (rw ok.size (none-due c))

passes : (b : Book) → Invariant b → estimate_refusal b.channels (lengths b.blocks) ≡ 0
unfolding estimate_refusal first_due
passes b h =
    let n = length-map b.blocks (λ k. length_of k.push) in
    let many = h.many in
    rw (right_count b.channels h.channels) (rw (le-ltb block_limit (length (lengths b.blocks)) (omega arith)) (none-due h.chained))

-- ---- The bound

filled-most : (n : ℕ) → padded_size (8 * n) ≤ alignment * n
unfolding padded_size
filled-most n = omega arith

size_is : {ch : ℕ} (k : Block) → (ch ≡ 1) ⊎ (ch ≡ 2) → BlockOk ch k → data_size k.push.channels (length k.push.left.bytes) (length k.push.right.bytes)
    ≡ ch * padded_size (adpcm_bytes (length_of k.push))
unfolding data_size
size_is {ch} k c ok =
    ⊎_elim
    (λ e. rw (ne_eqb k.push.channels 2 (λ q. omega (arith, ok.same))) (rw ok.left.long (rw e (omega arith))))
    (λ e. rw (eq-eqb k.push.channels 2 (ok.same ∙ e)) (rw (ok.left.long, (ok.right e).long) (rw e (omega arith)))) c

block-most : {ch : ℕ} (k : Block) → (ch ≡ 1) ⊎ (ch ≡ 2) → BlockOk ch k → end_of k ≤ k.offset + (block_header_size + ch * padded_size (adpcm_bytes (length_of k.push))) + alignment * points k.cues
block-most k c ok = omega (arith, size_is k c ok, filled-most (points k.cues))

chain_most : {ch o a : ℕ} {bs : List Block} → (ch ≡ 1) ⊎ (ch ≡ 2) → Chained ch o a bs
    → end_from o bs ≤ o + sum (λ n. block_header_size + ch * padded_size (adpcm_bytes n)) (lengths bs) + alignment * named_by bs
unfolding end_from sum
chain_most c Chained.none = omega arith
chain_most w (Chained.more {k = k} e f ok c) = omega (arith, block-most k w ok, chain_most w c)

pub estimate_bound : (b : Book) (ch : ℕ) → b.channels ≡ ch → Invariant b
    → (n : ℕ) × (estimates ch (lengths b.blocks) (points b.cues) ≡ accepted n) × (end_of_blocks b.blocks ≤ n)
unfolding estimate_of estimated
estimate_bound b ch e h =
    let c = chain_most h.channels h.chained in
    let m = h.named in (
      estimated ch (lengths b.blocks) (points b.cues),
      rw (ap (λ (x : ℕ). estimate_refusal x (lengths b.blocks)) (sym e) ∙ passes b h),
      rw (← e) (omega (arith, next_end b.blocks)),
    )
