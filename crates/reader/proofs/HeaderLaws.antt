-- A block header that is read, or is not in the slot.
use Prim.Native.Nat.{ℕ, ◌+◌, ◌≤◌}
use mathlib.Core.Path.{◌≡◌, ap}
use mathlib.Core.List.{List}
use lib.ListN.{length, get_or}
use lib.Dec.{leb}
use borrow.Author.Tests.{leb-true, leb-false}
use Rattle.layout.specs.Records.{Read, header_at, read_header, data_after}
use Rattle.layout.specs.declared.BlockHeader.{BlockHeader}
use Rattle.layout.proofs.Cases.{by_cases}
use Rattle.layout.proofs.FieldLaws.{field-inside, field_past, field_value}

-- it is the one at the offset
pub header_is : (s : List ℕ) (o : ℕ) {h : BlockHeader} → read_header s o ≡ Read.value h → h ≡ header_at s o
unfolding read_header
header_is s o {h} e = (field_value s (o + data_after (get_or s (o + 28) 0)) (header_at s o) h e).is

-- it lies in the slot with its filled cues
pub header-inside : (s : List ℕ) (o : ℕ) {h : BlockHeader} → read_header s o ≡ Read.value h → o + data_after h.cues ≤ length s
unfolding read_header header_at
header-inside s o {h} e =
    let g = field_value s (o + data_after (get_or s (o + 28) 0)) (header_at s o) h e in
    let c : h.cues ≡ get_or s (o + 28) 0 = ap (λ (x : BlockHeader). x.cues) g.is in
    rw c g.inside

-- the one or the other
pub header_cases : {A : Type 0} (s : List ℕ) (o : ℕ) → (read_header s o ≡ Read.refused 1 → A) → ((h : BlockHeader) → read_header s o ≡ Read.value h → A) → A
unfolding read_header
header_cases s o f g =
    let past = o + data_after (get_or s (o + 28) 0) in
    by_cases (leb past (length s))
    (λ t. g (header_at s o) (field-inside s past (header_at s o) (leb-true past (length s) t)))
    (λ t. f (field_past s past (header_at s o) (leb-false past (length s) t)))
