-- What a block read answers by where its data lies.
use Rattle.std.proofs.Common.{Option, Some}
use Prim.Native.Nat.{ℕ, ◌+◌, ◌-◌, ◌≤◌, ◌<◌}
use mathlib.Core.Path.{◌≡◌, refl, sym, ap, ◌∙◌}
use mathlib.Core.List.{List, []}
use native.Mathlib.Omega.{arith}
use borrow.Author.Tests.{lt-leb, leb-true, leb-false}
use lib.ListN.{length, take, drop, length-take, length-drop}
use lib.Dec.{leb}
use Rattle.layout.specs.Records.{Read, on, read_header, length_in, address_to_byte_up}
use Rattle.layout.specs.declared.BlockHeader.{BlockHeader}
use Rattle.layout.specs.declared.DspFormat.{DspFormat}
use Rattle.layout.specs.declared.FrameContext.{FrameContext}
use Rattle.layout.specs.declared.Channel.{Channel}
use Rattle.layout.proofs.Cases.{by_cases}
use Rattle.layout.proofs.FieldLaws.{field-inside, field_past}
use Rattle.reader.specs.declared.HpsReader.{HpsReader}
use Rattle.reader_block.specs.declared.Block.{Block}
use Rattle.reader_block.specs.declared.data_places.BlockData.{BlockData}
use Rattle.reader.specs.OpeningAndReading.{BlockAnswer, channel_in, offset_in, context_in, bytes_in, data_start, data_part, block_read}
use Rattle.reader_block.specs.DataPlaces.{data_placed, data_found}
use Rattle.reader_block.specs.BlockAnswers.{block_answer, block_position, block_data, block_start, bytes_on}
use Rattle.reader.proofs.HeaderLaws.{header_cases}
use Rattle.reader.proofs.PartsLaws.{block-is}

module _ (slot start n len : ℕ) (c : FrameContext) where
  placed_out : {k : ℕ} → data_placed slot start n len c ≡ Read.refused k → (slot < start + n) × (k ≡ 1)
  placed_out e =
      by_cases (leb (start + n) slot)
      (λ t. let q = rw t at e in absurd cc)
      (λ t. let q = rw t at e in (leb-false (start + n) slot t, cc))

  placed_in : (d : BlockData) → data_placed slot start n len c ≡ Read.value d
      → (start + n ≤ slot) × (◌≡◌ {A = BlockData} (record { length = len; context = c; start = start; end = start + n }) d)
  placed_in d e =
      by_cases (leb (start + n) slot)
      (λ t. let k = rw t at e in (leb-true (start + n) slot t, cc))
      (λ t. let k = rw t at e in absurd cc)

-- the data of a block that was found
pub record Given (s : List ℕ) (r : HpsReader) (ch i : ℕ) (d : BlockData) : Type 0 where
  pub order : d.start ≤ d.end
  pub inside : d.end ≤ length s
  pub is : block_read s r ch i
      ≡ BlockAnswer.gave r.rate (channel_in r ch).format (channel_in r ch).coefficients (channel_in r ch).gain d.length d.context d.start
      (take (d.end - d.start) (drop d.start s)) (i + 1)

module _ (s : List ℕ) (r : HpsReader) (ch i : ℕ) (p : ch < r.count) (q : i < r.blocks) (f : DspFormat) (ef : (channel_in r ch).format ≡ f) where
  pub not_given : {k : ℕ} → data_found s (offset_in r i) ch f ≡ Read.refused k → block_read s r ch i ≡ BlockAnswer.refused_at k (i + 1)
  unfolding block_read data_found data_part
  not_given {k} e =
      header_cases s (offset_in r i)
      (λ t. let x : k ≡ 1 = let z = rw t at e in cc in rw (lt-leb r.count ch p) (rw (lt-leb r.blocks i q) (rw (t, x))))
      (λ h t.
      let n = address_to_byte_up f (length_in h) in
      let start = data_start (offset_in r i) h ch n in
      let l = placed_out (length s) start n (length_in h) (context_in h ch) (rw t at e) in
      rw (lt-leb r.count ch p) (rw (lt-leb r.blocks i q) (rw (t, ef) (rw (field_past s (start + n) (take n (drop start s)) l.0, l.1)))))

  pub given : (d : BlockData) → data_found s (offset_in r i) ch f ≡ Read.value d → Given s r ch i d
  unfolding data_found data_part
  given d e =
      header_cases s (offset_in r i)
      (λ t. let k = rw t at e in absurd cc)
      (λ h t.
      let k = rw (t, ← ef) at e in
      let n = bytes_in r h ch in
      let start = data_start (offset_in r i) h ch n in
      let l = placed_in (length s) start n (length_in h) (context_in h ch) d k in
      let m : start + n - start ≡ n = omega arith in
      rw (sym l.1) (record {
        order = omega arith;
        inside = l.0;
        is = rw m (block-is s r ch i (offset_in r i) h (channel_in r ch) (length_in h) (take n (drop start s)) p q refl t refl refl (field-inside s (start + n) (take n (drop start s)) l.0));
      }))

module _ (s : List ℕ) (r : HpsReader) (ch i : ℕ) (d : BlockData) (g : Given s r ch i d) where
  pub answer_given : (x : Channel) → channel_in r ch ≡ x
      → ◌≡◌ {A = Read (Option Block)}
      (Read.value (Some (record {
        rate = r.rate;
        format = x.format;
        coefficients = x.coefficients;
        gain = x.gain;
        length = d.length;
        context = d.context;
        start = d.start;
        end = d.end;
      })))
      (block_answer (block_read s r ch i))
  answer_given x ex =
      let n : length (take (d.end - d.start) (drop d.start s)) ≡ d.end - d.start = simp (length-take, length-drop) (omega (arith, g.order, g.inside)) in
      let m : d.start + length (take (d.end - d.start) (drop d.start s)) ≡ d.end = omega (arith, g.order) in
      rw g.is (rw (m, ex))

  pub data_given : (at : ℕ × ℕ) → (take (d.end - d.start) (drop d.start s) ≡ block_data (block_read s r ch i)) × (bytes_on at d.start ≡ bytes_on at (block_start (block_read s r ch i)))
  data_given at = rw g.is (refl, refl)

-- ---- The position

module _ (s : List ℕ) (r : HpsReader) (ch i : ℕ) where
  -- what a read gives that has the data
  abbrev gives : BlockHeader → Read (List ℕ) → BlockAnswer
  gives h d =
      on d (λ n. BlockAnswer.refused_at n (i + 1)) (λ bytes.
      BlockAnswer.gave r.rate (channel_in r ch).format (channel_in r ch).coefficients (channel_in r ch).gain (length_in h) (context_in h ch)
      (data_start (offset_in r i) h ch (bytes_in r h ch)) bytes (i + 1))

  -- the same with the header
  abbrev answers : Read BlockHeader → BlockAnswer
  answers h = on h (λ n. BlockAnswer.refused_at n (i + 1)) (λ h. gives h (data_part s (data_start (offset_in r i) h ch (bytes_in r h ch)) (bytes_in r h ch)))

  gives_moves : (h : BlockHeader) (d : Read (List ℕ)) → block_position i (gives h d) ≡ i + 1
  gives_moves h (Read.refused n) = refl
  gives_moves h (Read.value bytes) = refl

  answers_moves : (h : Read BlockHeader) → block_position i (answers h) ≡ i + 1
  answers_moves (Read.refused n) = refl
  answers_moves (Read.value h) = gives_moves h (data_part s (data_start (offset_in r i) h ch (bytes_in r h ch)) (bytes_in r h ch))

  -- past every block of a channel in use, read or refused
  pub moves_on : ch < r.count → i < r.blocks → block_position i (block_read s r ch i) ≡ i + 1
  unfolding block_read
  moves_on p q = rw (lt-leb r.count ch p) (rw (lt-leb r.blocks i q) (answers_moves (read_header s (offset_in r i))))

-- ---- The data

-- where no block is given: an empty part at the slot's start
pub no_part : {a b : BlockAnswer} (at : ℕ × ℕ) → a ≡ b → block_data b ≡ [] → block_start b ≡ 0 → ([] ≡ block_data a) × (at ≡ bytes_on at (block_start a))
no_part at e d z = rw e (sym d, ap (λ (n : ℕ). (at.0, n)) (let h : at.1 ≡ 0 + at.1 = omega arith in h ∙ ap (λ (n : ℕ). n + at.1) (sym z)))
