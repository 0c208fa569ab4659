-- Records read field by field: the answer that the fields come to.
use Prim.Native.Nat.{ℕ, ◌+◌, ◌*◌, ◌/◌, ◌≤◌, ◌<◌}
use mathlib.Core.Path.{◌≡◌}
use mathlib.Core.List.{List}
use native.Mathlib.Omega.{arith}
use lib.ListN.{length, get_or}
use lib.IntN.{ℤ}
use mir.Syntax.{w16, w32}
use mir.Val.{SFits, of_z, to_z}
use mir.Facts.{to_z-of_z}
use Rattle.layout.specs.Records.{padded_size, Read, field, u16_at, u32_at, i16_at, context_at, header_at, read_header, cue_at, data_after}
use Rattle.layout.specs.declared.FrameContext.{FrameContext}
use Rattle.layout.specs.declared.BlockHeader.{BlockHeader}
use Rattle.layout.specs.declared.CuePoint.{CuePoint}
use Rattle.std.specs.Prelude.{Result}
use Rattle.std.specs.Result.{IsErrAnd}
use Rattle.layout.specs.Answers.{number_of, says}
use Rattle.layout.specs.declared.refusal.Refusal.{Refusal}
use Rattle.layout.proofs.FieldLaws.{Got, Missed, got, handed_on, answer_in_lem, answer_out}

module _ (s : List ℕ) (at : ℕ) where
  -- ---- A context

  pub context-made : {p : ℕ} {x y : ℤ} → Got s (at + 2) (u16_at s at) p → Got s (at + 2 + 2) (i16_at s (at + 2)) x → Got s (at + 4 + 2) (i16_at s (at + 4)) y → SFits w16 x → SFits w16 y
      → ◌≡◌ {A = Read FrameContext} (Read.value (record { predictor_and_scale = p; last = to_z w16 (of_z w16 x); oldest = to_z w16 (of_z w16 y) })) (field s (at + 6) (context_at s at))
  unfolding context_at
  context-made f g h fx fy = answer_in_lem s (at + 6) (context_at s at) (omega (arith, h.inside)) (rw (to_z-of_z fx, to_z-of_z fy, f.is, g.is, h.is))

  -- ---- A cue

  pub cue-made : {x : ℤ} {n : ℕ} → Got s (at + 4) (to_z w32 (u32_at s at)) x → Got s (at + 4 + 4) (u32_at s (at + 4)) n → SFits w32 x
      → ◌≡◌ {A = Read CuePoint} (Read.value (record { sample_index = to_z w32 (of_z w32 x); id = n })) (field s (at + 8) (cue_at s at))
  unfolding cue_at
  cue-made f g fx = answer_in_lem s (at + 8) (cue_at s at) (omega (arith, g.inside)) (rw (to_z-of_z fx, f.is, g.is))

  -- ---- A header

  -- "filled up to a multiple of 4 cues": as the code counts it
  filled : (n : ℕ) → (n + 3) / 4 * 32 ≡ padded_size (8 * n)
  unfolding padded_size
  filled n = omega arith

  -- a refused field of it
  pub header_out : {A : Type 0} {past : ℕ} {a : A} (r : Result BlockHeader Refusal) (e : Refusal) → IsErrAnd r (λ x. x ≡ e) → Missed s past a (number_of e)
      → past ≤ at + 32 → says r ≡ read_header s at
  unfolding read_header
  header_out r e p m h = handed_on r e p m (at + data_after (get_or s (at + 28) 0)) (header_at s at) (omega arith)

  module _ {n : ℕ} (c : Got s (at + 28 + 1) (get_or s (at + 28) 0) n) where
    pub cues_out : length s < at + (32 + (n + 3) / 4 * 32) → Read.refused 1 ≡ read_header s at
    unfolding read_header
    cues_out h = answer_out s (at + data_after (get_or s (at + 28) 0)) (header_at s at) (rw (← c.is) (omega (arith, filled n)))

    pub header_made : {size end next : ℕ} {l r : FrameContext} → Got s (at + 4) (u32_at s at) size → Got s (at + 4 + 4) (u32_at s (at + 4)) end
        → Got s (at + 8 + 4) (u32_at s (at + 8)) next → Got s (at + 12 + 6) (context_at s (at + 12)) l → Got s (at + 20 + 6) (context_at s (at + 20)) r
        → at + (32 + (n + 3) / 4 * 32) ≤ length s
        → ◌≡◌ {A = Read BlockHeader} (Read.value (record { size = size; end_address = end; next_offset = next; left = l; right = r; cues = n })) (read_header s at)
    unfolding read_header header_at
    header_made a b d f g i =
        answer_in_lem s (at + data_after (get_or s (at + 28) 0)) (header_at s at) (rw (← c.is) (omega (arith, filled n)))
        (rw (a.is, b.is, d.is, f.is, g.is, c.is))

-- the same by the fields of the contexts
module _ (s : List ℕ) (at : ℕ) {n : ℕ} (c : Got s (at + 28 + 1) (get_or s (at + 28) 0) n) where
  pub header_of_fields : {size end next p q : ℕ} {x y z w : ℤ} → Got s (at + 4) (u32_at s at) size → Got s (at + 4 + 4) (u32_at s (at + 4)) end
      → Got s (at + 8 + 4) (u32_at s (at + 8)) next
      → Got s (at + 12 + 2) (u16_at s (at + 12)) p → Got s (at + 14 + 2) (i16_at s (at + 14)) x → Got s (at + 16 + 2) (i16_at s (at + 16)) y
      → Got s (at + 20 + 2) (u16_at s (at + 20)) q → Got s (at + 22 + 2) (i16_at s (at + 22)) z → Got s (at + 24 + 2) (i16_at s (at + 24)) w
      → SFits w16 x → SFits w16 y → SFits w16 z → SFits w16 w → at + (32 + (n + 3) / 4 * 32) ≤ length s
      → ◌≡◌ {A = Read BlockHeader}
      (Read.value (record {
        size = size;
        end_address = end;
        next_offset = next;
        left = record { predictor_and_scale = p; last = to_z w16 (of_z w16 x); oldest = to_z w16 (of_z w16 y) };
        right = record { predictor_and_scale = q; last = to_z w16 (of_z w16 z); oldest = to_z w16 (of_z w16 w) };
        cues = n;
      }))
      (read_header s at)
  header_of_fields k l m a b d e f g fx fy fz fw i =
      let e14 : at + 12 + 2 ≡ at + 14 = omega arith in
      let e16 : at + 12 + 4 ≡ at + 16 = omega arith in
      let e22 : at + 20 + 2 ≡ at + 22 = omega arith in
      let e24 : at + 20 + 4 ≡ at + 24 = omega arith in
      header_made s at c k l m (got (context-made s (at + 12) a (rw (← e14) at b) (rw (← e16) at d) fx fy)) (got (context-made s (at + 20) e (rw (← e22) at f) (rw (← e24) at g) fz fw)) i
