-- What block read gives, and with it the decoding call: which numbers, where the position goes, how long data and samples are.
use Prim.Native.Nat.{ℕ, ◌+◌, ◌≤◌, ◌<◌}
use mathlib.Core.Path.{◌≡◌, refl}
use mathlib.Core.List.{List}
use native.Mathlib.Omega.{arith}
use lib.ListN.{length, drop, length-drop}
use lib.Seq.{length-take-le}
use lib.Dec.{leb, ltb}
use borrow.Author.Tests.{leb-true, leb-false, ltb-true, ltb-false, le-ltb}
use Rattle.layout.specs.Records.{field, address_to_byte_up, adpcm_bytes, adpcm_samples}
use Rattle.layout.specs.declared.DspFormat.{DspFormat}
use Rattle.layout.proofs.Cases.{by_cases}
use Rattle.reader.specs.OpeningAndReading.{BlockAnswer, channel_in, offset_in, bytes_in, data_start, data_part, block_read}
use Rattle.reader.specs.declared.HpsReader.{HpsReader}
use Rattle.reader.proofs.HeaderLaws.{header_cases}
use Rattle.adpcm_block.specs.Block.{decoded_into}
use Rattle.adpcm_block.proofs.CountLaws.{block-count}
use Rattle.reader_decode.specs.Decoding.{DecodeAnswer, not_adpcm, on_block, decoding}

-- ---- Block read

-- data that is given: of a block that is there, as long as its length says, in the slot
pub record Given (s : List ℕ) (r : HpsReader) (i : ℕ) (f : DspFormat) (n : ℕ) (bytes : List ℕ) (j : ℕ) : Type 0 where
  pub there : i < r.blocks
  pub moved : j ≡ i + 1
  pub long : length bytes ≡ address_to_byte_up f n
  pub inside : length bytes ≤ length s

abbrev pub ReadSays : List ℕ → HpsReader → (position : ℕ) → BlockAnswer → Type 0
ReadSays s r i (BlockAnswer.refused n) = n ≡ 6
ReadSays s r i (BlockAnswer.refused_at n j) = n ≡ 1
ReadSays s r i BlockAnswer.ended = r.blocks ≤ i
ReadSays s r i (BlockAnswer.gave rate f cs gain n c start bytes j) = Given s r i f n bytes j

pub read_says : (s : List ℕ) (r : HpsReader) (ch i : ℕ) → ReadSays s r i (block_read s r ch i)
unfolding block_read data_part field
read_says s r ch i =
    by_cases (leb r.count ch) (λ t. rw t refl)
    (λ t. by_cases (leb r.blocks i) (λ u. rw t (rw u (leb-true r.blocks i u)))
    (λ u. header_cases s (offset_in r i) (λ v. rw t (rw u (rw v refl)))
    (λ h v.
    let n = bytes_in r h ch in
    let start = data_start (offset_in r i) h ch n in
    by_cases (leb (start + n) (length s))
    (λ w.
    let inside = leb-true (start + n) (length s) w in
    let long = length-take-le n (drop start s) (omega (arith, length-drop start s)) in
    rw t (rw u (rw v (rw w (record { there = leb-false r.blocks i u; moved = refl; long = long; inside = omega (arith, long) })))))
    (λ w. rw t (rw u (rw v (rw w refl)))))))

-- ---- The decoding call

-- a block whose data is in the slot, with more samples than these
pub record Longer (s : List ℕ) (places : ℕ) : Type 0 where
  pub data_length : ℕ
  pub inside : adpcm_bytes data_length ≤ length s
  pub longer : places < adpcm_samples data_length

-- samples that are given: of a block that is there, no more than there are places
pub record Gave (r : HpsReader) (i places count j : ℕ) : Type 0 where
  pub there : i < r.blocks
  pub moved : j ≡ i + 1
  pub few : count ≤ places

abbrev pub DecodingSays : List ℕ → HpsReader → (position places : ℕ) → DecodeAnswer → Type 0
DecodingSays s r i places (DecodeAnswer.refused n) = n ≡ 14 → Longer s places
DecodingSays s r i places DecodeAnswer.ended = r.blocks ≤ i
DecodingSays s r i places (DecodeAnswer.gave d j) = Gave r i places (length d.samples) j

module _ (s : List ℕ) (r : HpsReader) (i places : ℕ) where
  block_says : (a : BlockAnswer) → ReadSays s r i a → DecodingSays s r i places (on_block a places)
  unfolding on_block decoded_into field
  block_says (BlockAnswer.refused n) e = λ k. absurd (omega (arith, e, k))
  block_says (BlockAnswer.refused_at n j) e = λ k. absurd (omega (arith, e, k))
  block_says BlockAnswer.ended e = e
  block_says (BlockAnswer.gave rate f cs gain n c start bytes j) g =
      by_cases (leb (adpcm_bytes n) (length bytes))
      (λ t.
      let whole = leb-true (adpcm_bytes n) (length bytes) t in
      by_cases (ltb places (adpcm_samples n))
      (λ u. rw (t, u) (λ k. record { data_length = n; inside = omega (arith, whole, g.inside); longer = ltb-true places (adpcm_samples n) u }))
      (λ u.
      let few = ltb-false places (adpcm_samples n) u in
      rw (t, u) (record { there = g.there; moved = g.moved; few = omega (arith, few, block-count cs c n bytes whole) })))
      (λ t. rw t (λ k. absurd (omega (arith, k))))

  pub decoding_says : (ch : ℕ) → DecodingSays s r i places (decoding s r ch i places)
  unfolding decoding
  decoding_says ch =
      by_cases (leb r.count ch) (λ t. rw t (λ k. absurd (omega (arith, k))))
      (λ t. by_cases (not_adpcm (channel_in r ch).format) (λ u. rw t (rw u (λ k. absurd (omega (arith, k)))))
      (λ u. rw t (rw u (block_says (block_read s r ch i) (read_says s r ch i)))))

-- ---- More places

module _ {A : Type 0} {p q : ℕ} (l : p ≤ q) where
  block_room : (a : BlockAnswer) → (on_block a p ≡ DecodeAnswer.refused 14 → A) → (on_block a p ≡ on_block a q → A) → A
  unfolding on_block decoded_into field
  block_room (BlockAnswer.refused n) f g = g refl
  block_room (BlockAnswer.refused_at n j) f g = g refl
  block_room BlockAnswer.ended f g = g refl
  block_room (BlockAnswer.gave rate h cs gain n c start bytes j) f g =
      by_cases (leb (adpcm_bytes n) (length bytes))
      (λ t. by_cases (ltb p (adpcm_samples n)) (λ u. f (rw (t, u)))
      (λ u.
      let k = ltb-false p (adpcm_samples n) u in
      let v = le-ltb q (adpcm_samples n) (omega (arith, k)) in
      g (rw (t, u) (rw v refl))))
      (λ t. g (rw t refl))

  -- with fewer places it is refused with 14, or the same
  pub decoding-room : (s : List ℕ) (r : HpsReader) (ch i : ℕ) → (decoding s r ch i p ≡ DecodeAnswer.refused 14 → A)
      → (decoding s r ch i p ≡ decoding s r ch i q → A) → A
  unfolding decoding
  decoding-room s r ch i f g =
      by_cases (leb r.count ch) (λ t. g (rw t refl))
      (λ t. by_cases (not_adpcm (channel_in r ch).format) (λ u. g (rw t (rw u refl)))
      (λ u. block_room (block_read s r ch i) (λ e. f (rw t (rw u e))) (λ e. g (rw t (rw u e)))))
