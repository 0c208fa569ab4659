-- The record's numbers, put piece after piece.
use Rattle.std.specs.Prelude.{Option, Some, None}
use Prim.Native.Nat.{ℕ, ◌+◌, ◌≤◌}
use mathlib.Core.Path.{◌≡◌, refl, ap, ◌∙◌}
use mathlib.Core.Bool.{Bool, true, false}
use denote.Enum.Declared.{tag_of}
use mir.Val.{bool_byte}
use Rattle.writer.specs.contracts.Looping.{the_type}
use mathlib.Core.List.{List, [], ◌∷◌, ◌++◌, append_assoc, append-nil, flat_map}
use native.Mathlib.Omega.{arith}
use lib.ListN.{length, length-append}
use Rattle.layout.specs.Puts.{put_at}
use Rattle.layout.specs.Records.{be32}
use Rattle.layout.proofs.Lengths.{be32-length}
use Rattle.layout.proofs.PutLaws.{Put, put_then, put_at-length}
use Rattle.writer.specs.declared.Looping.{Looping}
use Rattle.c_record.specs.declared.Fields.{Fields}
use Rattle.c_opened.specs.KeptReader.{be64, put_long}
use Rattle.c_opened.proofs.LongLaws.{be64-length, long-put}
use Rattle.c_record_put.specs.KeptNumbers.{mode_number, loop_offset_number, flag_number, places_bytes, sums_bytes, marks_bytes, number_bytes}
use Rattle.c_record.specs.KeptSides.{left_at}

-- ---- Four u64

pub long-start : (l : List ℕ) (at x : ℕ) {b : List ℕ} → b ≡ put_long l at x → at + 8 ≤ length l → Put l at 8 (be64 x) b
long-start l at x e h = record { size = be64-length x; is = e ∙ long-put l at x h }

pub long_then : {l b xs : List ℕ} {at k n : ℕ} → Put l at k xs b → (x : ℕ) {c : List ℕ} → c ≡ put_long b n x → n ≡ at + k → at + k + 8 ≤ length l
    → Put l at (k + 8) (xs ++ be64 x) c
long_then {l} {b} {xs} {at} {k} {n} p x e q h =
    let m : length b ≡ length l = ap length p.is ∙ put_at-length l at xs in
    put_then p (be64 x) (be64-length x) (e ∙ long-put b n x (omega arith)) q h

four : (a b c d : ℕ) → be64 a ++ be64 b ++ be64 c ++ be64 d ≡ flat_map be64 (a ∷ b ∷ c ∷ d ∷ [])
unfolding flat_map
four a b c d = simp (append_assoc, append-nil)

module _ (k k₁ k₂ k₃ : List ℕ) {k₄ : List ℕ} (a b c d : ℕ) (room : left_at ≤ length k) where
  pub places_put : k₁ ≡ put_long k 0 a → k₂ ≡ put_long k₁ 8 b → k₃ ≡ put_long k₂ 16 c → k₄ ≡ put_long k₃ 24 d → k₄ ≡ put_at k 0 (places_bytes a b c d)
  unfolding places_bytes
  places_put e₁ e₂ e₃ e₄ =
      let p = long-start k 0 a e₁ (omega arith) in
      let q = long_then p b e₂ refl (omega arith) in
      let r = long_then q c e₃ refl (omega arith) in
      (long_then r d e₄ refl (omega arith)).is ∙ ap (put_at k 0) (four a b c d)

  pub sums_put : k₁ ≡ put_long k 32 a → k₂ ≡ put_long k₁ 40 b → k₃ ≡ put_long k₂ 48 c → k₄ ≡ put_long k₃ 56 d → k₄ ≡ put_at k 32 (sums_bytes a b c d)
  unfolding sums_bytes
  sums_put e₁ e₂ e₃ e₄ =
      let p = long-start k 32 a e₁ (omega arith) in
      let q = long_then p b e₂ refl (omega arith) in
      let r = long_then q c e₃ refl (omega arith) in
      (long_then r d e₄ refl (omega arith)).is ∙ ap (put_at k 32) (four a b c d)

-- ---- The marks

pub mode_tag : (m : Looping) → tag_of the_type m ≡ mode_number m
mode_tag Looping.Disabled = refl
mode_tag Looping.Enabled = refl
mode_tag Looping.Auto = refl

pub flag_is : (b : Bool) → bool_byte b ≡ flag_number b
flag_is true = refl
flag_is false = refl

five : (a b c d e : ℕ) → be64 a ++ be32 b ++ be32 c ++ be32 d ++ be32 e ≡ be64 a ++ flat_map be32 (b ∷ c ∷ d ∷ e ∷ [])
unfolding flat_map
five a b c d e = simp (append_assoc, append-nil)

pub marks_put : (k k₁ k₂ k₃ k₄ : List ℕ) {k₅ : List ℕ} (a b id d e : ℕ) (l : Option ℕ) (m : Looping) (last finished : Bool) → left_at ≤ length k
    → a ≡ loop_offset_number l → k₁ ≡ put_long k 64 a → b ≡ mode_number m → k₂ ≡ put_at k₁ 72 (be32 b) → k₃ ≡ put_at k₂ 76 (be32 id)
    → d ≡ flag_number last → k₄ ≡ put_at k₃ 80 (be32 d) → e ≡ flag_number finished → k₅ ≡ put_at k₄ 84 (be32 e)
    → k₅ ≡ put_at k 64 (marks_bytes l m id last finished)
unfolding marks_bytes
marks_put k k₁ k₂ k₃ k₄ a b id d e l m last finished room ea e₁ eb e₂ e₃ ed e₄ ee e₅ =
    let p = long-start k 64 a e₁ (omega arith) in
    let q = put_then p (be32 b) (be32-length b) e₂ refl (omega arith) in
    let r = put_then q (be32 id) (be32-length id) e₃ refl (omega arith) in
    let t = put_then r (be32 d) (be32-length d) e₄ refl (omega arith) in
    (put_then t (be32 e) (be32-length e) e₅ refl (omega arith)).is
    ∙ ap (put_at k 64) (five a b id d e ∙ rw (ea, eb, ed, ee))

-- ---- The numbers

pub places_length : (a b c d : ℕ) → length (places_bytes a b c d) ≡ 32
unfolding places_bytes flat_map be64 be32
places_length a b c d = refl

pub sums_length : (a b c d : ℕ) → length (sums_bytes a b c d) ≡ 32
unfolding sums_bytes flat_map be64 be32
sums_length a b c d = refl

pub marks_length : (l : Option ℕ) (m : Looping) (id : ℕ) (last finished : Bool) → length (marks_bytes l m id last finished) ≡ 24
unfolding marks_bytes flat_map be64 be32
marks_length l m id last finished = refl

pub numbers_length : (s : Fields) → length (number_bytes s) ≡ left_at
unfolding number_bytes
numbers_length s = simp (length-append, places_length, sums_length, marks_length)

pub numbers_put : (k k₁ k₂ : List ℕ) {k₃ : List ℕ} (s : Fields) → left_at ≤ length k → k₁ ≡ put_at k 0 (places_bytes s.setup.slot s.setup.channels s.count s.stream.next)
    → k₂ ≡ put_at k₁ 32 (sums_bytes s.stream.base s.stream.offset s.stream.blocks s.stream.sum) → k₃ ≡ put_at k₂ 64 (marks_bytes s.stream.loopat s.setup.mode s.stream.id s.stream.last s.finished)
    → k₃ ≡ put_at k 0 (number_bytes s)
unfolding number_bytes
numbers_put k k₁ k₂ s room e₁ e₂ e₃ =
    let p : Put k 0 32 (places_bytes s.setup.slot s.setup.channels s.count s.stream.next) _ = record { size = places_length _ _ _ _; is = e₁ } in
    let q = put_then p (sums_bytes s.stream.base s.stream.offset s.stream.blocks s.stream.sum) (sums_length _ _ _ _) e₂ refl (omega arith) in
    (put_then q (marks_bytes s.stream.loopat s.setup.mode s.stream.id s.stream.last s.finished) (marks_length _ _ _ _ _) e₃ refl (omega arith)).is
