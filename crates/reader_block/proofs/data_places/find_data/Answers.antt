use Prim.Native.Nat.{ℕ}
use mathlib.Core.Path.{◌≡◌, sym, ap, ◌∙◌}
use native.Mathlib.Omega.{arith}
use Rattle.layout.specs.Records.{padded_size, length_in, address_to_byte_up}
use Rattle.layout.specs.Sizes.{saturated}
use Rattle.layout.proofs.FieldLaws.{passed_on}
use Rattle.reader_block.proofs.DataPlaceLaws.{found_refused, cues-small, first_small, aligned_bytes, aligned_small, found_left, found_right}
use Rattle.reader_block.proofs.data_places.find_data.Goals as goal

pub returns-in_err-header : goal.returns-in_err-header
returns-in_err-header c =
    let a = c.args in
    rw (passed_on _ _ c.from_residual.ensures.1) (found_refused a.s.now a.offset a.channel a.format c.in_err-header.ensures)

pub overflow_mul-header : goal.overflow_mul-header
overflow_mul-header c =
    let a = c.args in
    let h = c.in_ok-header.header in
    let e = sym c.in_ok-header.ensures in
    omega (arith, cues-small a.s.now a.offset h e (omega arith))

pub overflow_add-first-2 : goal.overflow_add-first-2
overflow_add-first-2 c =
    let a = c.args in
    let h = c.in_ok-header.header in
    let e = sym c.in_ok-header.ensures in
    omega (arith, c.align.ensures, first_small a.s.now a.offset h e (omega arith))

pub overflow_add-first-then-channel-eq1 : goal.overflow_add-first-then-channel-eq1
overflow_add-first-then-channel-eq1 c =
    let a = c.args in
    let h = c.in_ok-header.header in
    let e = sym c.in_ok-header.ensures in
    let n : c.align-then-channel-eq1.result ≡ saturated (padded_size (address_to_byte_up a.format (length_in h))) =
    c.align-then-channel-eq1.ensures ∙ ap (λ (m : ℕ). saturated (padded_size m)) c.address_to_byte_up-bytes.ensures in
    omega (
      arith,
      n,
      c.align.ensures,
      first_small a.s.now a.offset h e (omega arith),
      aligned_bytes a.format (length_in h)
          (omega arith),
      aligned_small a.format (length_in h) (omega arith),
    )

pub returns-then-channel-eq1 : goal.returns-then-channel-eq1
returns-then-channel-eq1 c =
    let a = c.args in
    let h = c.in_ok-header.header in
    let e = sym c.in_ok-header.ensures in
    let n : c.address_to_byte_up-bytes.result ≡ address_to_byte_up a.format (length_in h) = c.address_to_byte_up-bytes.ensures in
    let b : c.align-then-channel-eq1.result ≡ saturated (padded_size (address_to_byte_up a.format (length_in h))) = c.align-then-channel-eq1.ensures ∙ ap (λ (m : ℕ). saturated (padded_size m)) n in
    let q = c.place_data.ensures in
    found_right a.s.now a.offset h e (omega arith) a.channel a.format _ c.if-channel-eq1.true (omega arith)
    (rw (c.align.ensures, b, n, c.from-length.ensures) at q)

pub returns-else-channel-eq1 : goal.returns-else-channel-eq1
returns-else-channel-eq1 c =
    let a = c.args in
    let h = c.in_ok-header.header in
    let e = sym c.in_ok-header.ensures in
    let n : c.address_to_byte_up-bytes.result ≡ address_to_byte_up a.format (length_in h) =
    c.address_to_byte_up-bytes.ensures in
    let q = c.place_data-else-channel-eq1.ensures in
    found_left a.s.now a.offset h e (omega arith) a.channel a.format _ c.if-channel-eq1.false
    (rw (c.align.ensures, n, c.from-length.ensures) at q)
