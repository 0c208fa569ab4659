-- How many samples a block has: document 01's count, for every length.
use Prim.Native.Nat.{ℕ, zero, suc, ◌+◌, ◌-◌, ◌*◌, ◌/◌, ◌%◌, ◌≤◌, ◌<◌, min}
use mathlib.Core.Path.{◌≡◌, refl, sym, ◌∙◌}
use mathlib.Core.List.{List}
use native.Mathlib.Omega.{arith}
use lib.Dec.{ltb}
use Rattle.layout.proofs.Cases.{by_cases}
use lib.ListN.{length, drop, length-take, length-drop, length-append}
use lib.IntN.{ℤ}
use borrow.Author.Tests.{ltb-true, ltb-false, lt-ltb, le-ltb}
use Rattle.layout.specs.Records.{adpcm_bytes, adpcm_samples}
use Rattle.layout.specs.declared.FrameContext.{FrameContext}
use Rattle.adpcm_block.specs.Block.{pair_decoded, frame_halves, frame_decoded, with_header, frames_decoded, block_decoded}
use Rattle.adpcm_block.proofs.HalfLaws.{length-halves, halves-count}

-- the samples before an address, as 14 of each whole frame
samples_head : (n : ℕ) → n % 16 < 2 → adpcm_samples n ≡ n / 16 * 14
unfolding adpcm_samples
samples_head n h = rw (lt-ltb (n % 16) 2 h) (omega arith)

samples_inside : (n : ℕ) → 2 ≤ n % 16 → adpcm_samples n + 2 ≡ n / 16 * 14 + n % 16
unfolding adpcm_samples
samples_inside n h = rw (le-ltb (n % 16) 2 h) (omega arith)

-- the last frame
pub samples_last : (n : ℕ) → n ≤ 16 → adpcm_samples n ≡ n - 2
samples_last n h =
    by_cases (ltb (n % 16) 2)
    (λ t. let k = ltb-true (n % 16) 2 t in omega (arith, samples_head n k))
    (λ t. let k = ltb-false (n % 16) 2 t in omega (arith, samples_inside n k))

-- a whole frame before others
pub samples_more : (n : ℕ) → 16 < n → adpcm_samples n ≡ 14 + adpcm_samples (n - 16)
samples_more n h =
    by_cases (ltb (n % 16) 2)
    (λ t. let k = ltb-true (n % 16) 2 t in let e : (n - 16) % 16 < 2 = omega arith in omega (arith, samples_head n k, samples_head (n - 16) e))
    (λ t. let k = ltb-false (n % 16) 2 t in let e : 2 ≤ (n - 16) % 16 = omega arith in omega (arith, samples_inside n k, samples_inside (n - 16) e))

-- no more than those of so many whole frames
pub samples_most : (n m : ℕ) → n ≤ 16 * m → adpcm_samples n ≤ 14 * m
samples_most n m h =
    by_cases (ltb (n % 16) 2)
    (λ t. let k = ltb-true (n % 16) 2 t in omega (arith, samples_head n k))
    (λ t. let k = ltb-false (n % 16) 2 t in omega (arith, samples_inside n k))

-- the half bytes of a frame
pub frame_count_lem : (n : ℕ) (bytes : List ℕ) → length (frame_halves n bytes) ≡ min (n - 2) (min 14 (2 * (length bytes - 1)))
frame_count_lem n bytes = simp (length-take, length-halves, length-drop)

pub pair-count : (cs : List ℤ) (c : FrameContext) (hs : List ℕ) → length (pair_decoded cs c hs).samples ≡ length hs
unfolding pair_decoded
pair-count cs c hs = halves-count _ _ c hs

-- the bytes of the frames after the first
pub bytes_more : (n : ℕ) (bytes : List ℕ) → 16 < n → adpcm_bytes n ≤ length bytes → adpcm_bytes (n - 16) ≤ length (drop 8 bytes)
unfolding adpcm_bytes
bytes_more n bytes l h = simp length-drop (omega arith)

-- the half bytes of a frame are there
last-whole : (n k : ℕ) → adpcm_bytes n ≤ k → n ≤ 16 → min (n - 2) (min 14 (2 * (k - 1))) ≡ n - 2
unfolding adpcm_bytes
last-whole n k h l = omega arith

more-whole : (n k : ℕ) → adpcm_bytes n ≤ k → 16 < n → min (n - 2) (min 14 (2 * (k - 1))) ≡ 14
unfolding adpcm_bytes
more-whole n k h l = omega arith

-- a frame and the others
pub frames_count : (more : ℕ) (cs : List ℤ) (c : FrameContext) (n : ℕ) (bytes : List ℕ) → more ≡ (n - 1) / 16 → adpcm_bytes n ≤ length bytes
    → length (frames_decoded more cs c n bytes).samples ≡ adpcm_samples n
unfolding frames_decoded
frames_count zero cs c n bytes e h =
    let l : n ≤ 16 = omega arith in
    pair-count cs c (frame_halves n bytes) ∙ frame_count_lem n bytes ∙ last-whole n (length bytes) h l ∙ sym (samples_last n l)
frames_count (suc more) cs c n bytes e h =
    let l : 16 < n = omega arith in
    let first = frame_decoded cs c n bytes in
    let rest = frames_decoded more cs (with_header first.context bytes) (n - 16) (drop 8 bytes) in
    length-append first.samples rest.samples
    ∙ (let p : length first.samples ≡ 14 = pair-count cs c (frame_halves n bytes) ∙ frame_count_lem n bytes ∙ more-whole n (length bytes) h l in
    let q : length rest.samples ≡ adpcm_samples (n - 16) =
    frames_count more cs (with_header first.context bytes) (n - 16) (drop 8 bytes) (omega arith) (bytes_more n bytes l h) in
    omega (arith, p, q, samples_more n l))

-- The law: a block of n addresses, whose data is all there, has as many samples as document 01 counts.
pub block-count : (cs : List ℤ) (c : FrameContext) (n : ℕ) (bytes : List ℕ) → adpcm_bytes n ≤ length bytes → length (block_decoded cs c n bytes).samples ≡ adpcm_samples n
unfolding block_decoded
block-count cs c n bytes h = frames_count ((n - 1) / 16) cs c n bytes refl h
