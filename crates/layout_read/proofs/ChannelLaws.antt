-- A channel read field by field: its coefficients one after the other, and the answer that the fields come to.
use Prim.Native.Nat.{ℕ, zero, suc, ◌+◌, ◌*◌, ◌-◌, ◌≤◌, ◌<◌}
use mathlib.Core.Path.{◌≡◌, refl, sym, ap, ◌∙◌}
use mathlib.Core.Bool.{not}
use mathlib.Core.List.{List, [], ◌∷◌, ◌++◌, append-nil}
use native.Mathlib.Omega.{arith}
use native.Mathlib.Numerals.{add-one}
use lib.ListN.{length, set, replicate}
use lib.Seq.{set_at, append_snoc}
use lib.Dec.{eqb}
use lib.IntN.{ℤ, pos}
use mir.Syntax.{w16}
use mir.Val.{SFits, of_z, to_z}
use mir.Facts.{to_z-of_z}
use Rattle.layout.specs.Records.{Read, field, on, u16_at, u32_at, i16_at, i16s, context_at, format_of, channel_at, read_channel}
use Rattle.layout.specs.Answers.{number_of, says}
use Rattle.layout.specs.declared.FrameContext.{FrameContext}
use Rattle.layout.specs.declared.DspFormat.{DspFormat}
use Rattle.layout.specs.declared.Channel.{Channel}
use Rattle.std.specs.Prelude.{Result}
use Rattle.std.specs.Result.{IsErrAnd}
use Rattle.layout.specs.declared.refusal.Refusal.{Refusal}
use Rattle.layout.proofs.FieldLaws.{Got, Missed, field-inside, field_later, answer_in_lem, passed_on, handed_on}

-- ---- Coefficients

i16s-length : (s : List ℕ) (at n : ℕ) → length (i16s s at n) ≡ n
unfolding i16s
i16s-length s at zero = refl
i16s-length s at (suc n) = ap suc (i16s-length s (at + 2) n)

-- one more number
i16s-more : (s : List ℕ) (at n : ℕ) → i16s s at n ++ (i16_at s (at + n * 2) ∷ []) ≡ i16s s at (suc n)
unfolding i16s
i16s-more s at zero = let e : at + zero * 2 ≡ at = omega arith in rw e
i16s-more s at (suc n) =
    let e : at + suc n * 2 ≡ at + 2 + n * 2 = omega arith in
    rw e (ap (λ (l : List ℤ). i16_at s at ∷ l) (i16s-more s (at + 2) n))

-- of sixteen numbers the first i are read
pub record Reading (s : List ℕ) (at : ℕ) (zs : List ℤ) (i : ℕ) : Type 0 where
  pub inside : at + i * 2 ≤ length s
  pub is : zs ≡ i16s s at i ++ replicate (16 - i) (pos 0)

pub reading_none : (s : List ℕ) (at : ℕ) → at ≤ length s → Reading s at (replicate 16 (pos 0)) 0
unfolding i16s
reading_none s at h = record { inside = omega arith; is = refl }

module _ {s : List ℕ} {at : ℕ} {zs : List ℤ} {i : ℕ} (r : Reading s at zs i) where
  pub reading_more : {z : ℤ} → i < 16 → Got s (at + i * 2 + 2) (i16_at s (at + i * 2)) z → SFits w16 z → Reading s at (set zs i (to_z w16 (of_z w16 z))) (i + 1)
  reading_more {z} h g f =
      let l = i16s-length s at i in
      let rest = replicate (16 - (i + 1)) (pos 0) in
      let n : 16 - i ≡ suc (16 - (i + 1)) = omega arith in
      record {
        inside = omega (arith, g.inside);
        is =
            rw (r.is, n, to_z-of_z f, set_at (i16s s at i) (pos 0) rest z i l, g.is)
            (sym (append_snoc (i16s s at i) (i16_at s (at + i * 2)) rest) ∙ ap (λ (l : List ℤ). l ++ rest) (i16s-more s at i ∙ ap (i16s s at) (sym (add-one i))));
      }

  pub reading_all : i ≡ 16 → Read.value zs ≡ field s (at + 32) (i16s s at 16)
  reading_all h =
      answer_in_lem s (at + 32) (i16s s at 16) (omega (arith, r.inside)) (r.is ∙ rw h (append-nil (i16s s at 16)))

-- ---- The channel

module _ (s : List ℕ) (at : ℕ) where
  -- looping is refused, or the format's number
  pub channel_short : {A : Type 0} {past : ℕ} {a : A} (r : Result Channel Refusal) (e : Refusal) → IsErrAnd r (λ x. x ≡ e) → Missed s past a (number_of e)
      → past ≤ at + 4 → says r ≡ read_channel s at
  unfolding read_channel
  channel_short r e p m h = rw (passed_on r e p, ← field_later m (at + 4) (u16_at s (at + 2)) h)

  module _ {n : ℕ} (g : Got s (at + 2 + 2) (u16_at s (at + 2)) n) where
    -- what follows the number
    channel-on : read_channel s at ≡ on (format_of n) Read.refused (λ f. field s (at + 56) (channel_at s at f))
    unfolding read_channel
    channel-on = rw (field-inside s (at + 4) (u16_at s (at + 2)) (omega (arith, g.inside)), ← g.is)

    pub channel_unknown : (r : Result Channel Refusal) (e : Refusal) → IsErrAnd r (λ x. x ≡ e) → Read.refused (number_of e) ≡ format_of n → says r ≡ read_channel s at
    channel_unknown r e p k = rw (passed_on r e p) (sym (channel-on ∙ rw (sym k)))

    module _ {f : DspFormat} (known : Read.value f ≡ format_of n) where
      format_known : read_channel s at ≡ field s (at + 56) (channel_at s at f)
      format_known = channel-on ∙ rw (sym known)

      -- a refused field after the format
      pub rest_out : {A : Type 0} {past : ℕ} {a : A} (r : Result Channel Refusal) (e : Refusal) → IsErrAnd r (λ x. x ≡ e) → Missed s past a (number_of e)
          → past ≤ at + 56 → says r ≡ read_channel s at
      rest_out r e p m h = handed_on r e p m (at + 56) (channel_at s at f) h ∙ sym format_known

      pub rest-made : {k l e u g : ℕ} {zs : List ℤ} {c : FrameContext} → Got s (at + 2) (u16_at s at) k → Got s (at + 4 + 4) (u32_at s (at + 4)) l
          → Got s (at + 8 + 4) (u32_at s (at + 8)) e → Got s (at + 12 + 4) (u32_at s (at + 12)) u → Got s (at + 16 + 32) (i16s s (at + 16) 16) zs
          → Got s (at + 48 + 2) (u16_at s (at + 48)) g → Got s (at + 50 + 6) (context_at s (at + 50)) c
          → ◌≡◌ {A = Read Channel} (Read.value (record { looping = not (eqb k 0); format = f; loop_address = l; end_address = e; current_address = u; coefficients = zs; gain = g; context = c }))
          (read_channel s at)
      unfolding channel_at
      rest-made i l e u z g c =
          answer_in_lem s (at + 56) (channel_at s at f) (omega (arith, c.inside)) (rw (i.is, l.is, e.is, u.is, z.is, g.is, c.is)) ∙ sym format_known
