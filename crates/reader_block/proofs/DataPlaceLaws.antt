-- Where a block's data lies.
use Prim.Native.Nat.{ℕ, ◌+◌, ◌*◌, ◌≤◌, ◌<◌}
use mathlib.Core.Path.{◌≡◌}
use mathlib.Core.List.{List}
use native.Mathlib.Omega.{arith}
use borrow.Author.Tests.{eq-eqb, ne_eqb}
use lib.ListN.{length}
use Rattle.layout.specs.Records.{padded_size, Read, read_header, length_in, adpcm_bytes, address_to_byte_up, data_after}
use Rattle.layout.specs.Sizes.{saturated}
use Rattle.layout.specs.declared.DspFormat.{DspFormat}
use Rattle.layout.specs.declared.DspFormat.TheVariants.{Adpcm, Pcm16, Pcm8}
use Rattle.layout.specs.declared.BlockHeader.{BlockHeader}
use Rattle.layout.proofs.SizeLaws.{saturated-fits}
use Rattle.reader_block.specs.declared.data_places.BlockData.{BlockData}
use Rattle.reader.specs.OpeningAndReading.{data_start}
use Rattle.reader_block.specs.DataPlaces.{data_placed, data_found}
use Rattle.reader.proofs.HeaderLaws.{header-inside}
use Rattle.layout.proofs.Lengths.{padded_size_above}

-- every end address, in every format
pub bytes_small : (f : DspFormat) (n : ℕ) → n ≤ 4294967296 → address_to_byte_up f n ≤ 8589934592
unfolding adpcm_bytes
bytes_small Adpcm n h = omega arith
bytes_small Pcm16 n h = omega arith
bytes_small Pcm8 n h = omega arith

padded_size_near : (n : ℕ) → padded_size n ≤ n + 31
unfolding padded_size
padded_size_near n = omega arith

-- the alignment of a block's bytes
pub aligned_bytes : (f : DspFormat) (n : ℕ) → n ≤ 4294967296 → saturated (padded_size (address_to_byte_up f n)) ≡ padded_size (address_to_byte_up f n)
aligned_bytes f n h = saturated-fits (padded_size (address_to_byte_up f n)) (omega (arith, bytes_small f n h, padded_size_near (address_to_byte_up f n)))

pub aligned_small : (f : DspFormat) (n : ℕ) → n ≤ 4294967296 → padded_size (address_to_byte_up f n) ≤ 8589934623
aligned_small f n h = omega (arith, bytes_small f n h, padded_size_near (address_to_byte_up f n))

pub found_refused : (s : List ℕ) (o ch : ℕ) (f : DspFormat) {n : ℕ} → Read.refused n ≡ read_header s o → Read.refused n ≡ data_found s o ch f
unfolding data_found
found_refused s o ch f e = rw (← e)

module _ (s : List ℕ) (o : ℕ) (h : BlockHeader) (e : read_header s o ≡ Read.value h) (long : length s < 18446744073709551616) where
  pub cues-small : 8 * h.cues ≤ length s
  cues-small = omega (arith, header-inside s o e, padded_size_above (8 * h.cues))

  -- where channel 0's data starts, as the code counts it
  pub first-is : o + 32 + saturated (padded_size (8 * h.cues)) ≡ o + data_after h.cues
  first-is = omega (arith, saturated-fits (padded_size (8 * h.cues)) (omega (arith, header-inside s o e)))

  pub first_small : o + 32 + saturated (padded_size (8 * h.cues)) ≤ length s
  first_small = omega (arith, first-is, header-inside s o e)

  module _ (ch : ℕ) (f : DspFormat) (d : Read BlockData) where
    pub found_left : (ch ≡ 1 → ⊥) → d ≡ data_placed (length s) (o + 32 + saturated (padded_size (8 * h.cues))) (address_to_byte_up f (length_in h)) (length_in h) h.left → d ≡ data_found s o ch f
    unfolding data_found data_start
    found_left n q =
        let p : o + data_after h.cues + 0 ≡ o + 32 + saturated (padded_size (8 * h.cues)) = omega (arith, first-is) in
        rw e (rw (ne_eqb ch 1 n) (rw p q))

    pub found_right : ch ≡ 1 → h.end_address + 1 ≤ 4294967296
        → d ≡ data_placed (length s) (o + 32 + saturated (padded_size (8 * h.cues)) + saturated (padded_size (address_to_byte_up f (length_in h)))) (address_to_byte_up f (length_in h))
        (length_in h) h.right → d ≡ data_found s o ch f
    unfolding data_found data_start
    found_right n l q =
        let p : o + data_after h.cues + padded_size (address_to_byte_up f (length_in h)) ≡ o + 32 + saturated (padded_size (8 * h.cues)) + saturated (padded_size (address_to_byte_up f (length_in h))) =
        omega (arith, first-is, aligned_bytes f (length_in h) l) in
        rw e (rw (eq-eqb ch 1 n) (rw p q))
