-- The curve's text: entry after entry put into a buffer.
use Prim.Native.Nat.{ℕ, zero, suc, ◌+◌, ◌*◌, ◌/◌, ◌%◌, ◌≤◌, ◌<◌}
use mathlib.Core.Path.{◌≡◌, refl, sym, ap, ◌∙◌}
use mathlib.Core.List.{List, [], ◌∷◌, ◌++◌, append-nil}
use native.Mathlib.Omega.{arith}
use native.Mathlib.Numerals.{add-one}
use lib.ListN.{length, length-append}
use lib.Dec.{eqb}
use borrow.Author.Tests.{eqb-true, eqb-false, eq-eqb, ne_eqb}
use Rattle.layout.specs.Puts.{put_at}
use Rattle.layout.proofs.Cases.{by_cases}
use Rattle.layout.proofs.PutLaws.{Put, put_then, put_at-none, put_at-whole, put_at-length}
use Rattle.key_lines.specs.Lines.{column}
use Rattle.key_lines.proofs.ColumnLaws.{column-length}
use Rattle.fader.specs.Fader.{curve_entry}
use Rattle.fader_curve.specs.CurveText.{entry_text, text_of, curve_text}

-- ---- An entry

-- within its line it is its columns; the eighth has the newline behind them
pub inner_text : (k : ℕ) → (k % 8 ≡ 7 → ⊥) → entry_text k ≡ column 6 (curve_entry k)
unfolding entry_text
inner_text k h = rw (ne_eqb (k % 8) 7 h) (append-nil (column 6 (curve_entry k)))

pub eighth_text : (k : ℕ) → k % 8 ≡ 7 → entry_text k ≡ column 6 (curve_entry k) ++ (10 ∷ [])
unfolding entry_text
eighth_text k h = rw (eq-eqb (k % 8) 7 h)

pub inner_size : (k : ℕ) → (k % 8 ≡ 7 → ⊥) → length (entry_text k) ≡ 6
inner_size k h = rw (inner_text k h) (column-length 6 (curve_entry k))

pub eighth_size : (k : ℕ) → k % 8 ≡ 7 → length (entry_text k) ≡ 7
eighth_size k h = rw (eighth_text k h) (length-append (column 6 (curve_entry k)) (10 ∷ []) ∙ ap (λ (n : ℕ). n + 1) (column-length 6 (curve_entry k)))

-- put
module _ (l : List ℕ) (at k : ℕ) {b : List ℕ} (e : b ≡ put_at l at (column 6 (curve_entry k))) where
  pub inner_put : (k % 8 ≡ 7 → ⊥) → b ≡ put_at l at (entry_text k)
  inner_put h = rw (inner_text k h) e

  pub eighth_put : {c : List ℕ} → k % 8 ≡ 7 → at + 7 ≤ length l → c ≡ put_at b (at + 6) (10 ∷ []) → c ≡ put_at l at (entry_text k)
  eighth_put h m f =
      rw (eighth_text k h) (put_then {at = at} (record { size = column-length 6 (curve_entry k); is = e }) (10 ∷ []) refl f refl (omega arith)).is

-- ---- All of them

-- a line has 49 bytes
pub text_size : (n : ℕ) → length (text_of n) ≡ 6 * n + n / 8
unfolding text_of
text_size zero = refl
text_size (suc n) =
    let a = length-append (text_of n) (entry_text n) in
    let i = text_size n in
    by_cases (eqb (n % 8) 7)
    (λ t. let q = eqb-true (n % 8) 7 t in omega (arith, eighth_size n q))
    (λ t. let q = eqb-false (n % 8) 7 t in omega (arith, inner_size n q))

next_text : (n : ℕ) → text_of (n + 1) ≡ text_of n ++ entry_text n
unfolding text_of
next_text n = ap text_of (add-one n)

-- the first k are put into a buffer for all
pub record Putting (l b : List ℕ) (at k : ℕ) : Type 0 where
  pub room : length l ≡ 6272
  pub few : k ≤ 1024
  pub put : Put l 0 at (text_of k) b

pub putting_none : (l : List ℕ) → length l ≡ 6272 → Putting l l 0 0
unfolding text_of
putting_none l e = record { room = e; few = omega arith; put = record { size = refl; is = sym (put_at-none l 0) } }

module _ {l b : List ℕ} {at k : ℕ} (p : Putting l b at k) where
  pub at-is : at ≡ 6 * k + k / 8
  at-is = sym p.put.size ∙ text_size k

  pub putting_long : length b ≡ 6272
  putting_long = ap length p.put.is ∙ put_at-length l 0 (text_of k) ∙ p.room

  pub putting_room : k < 1024 → at + 7 ≤ 6272
  putting_room h = omega (arith, at-is)

  pub putting_more : {c : List ℕ} {n : ℕ} → k < 1024 → n ≡ length (entry_text k) → c ≡ put_at b at (entry_text k) → Putting l c (at + n) (k + 1)
  putting_more {c} {n} h e f =
      let long = ap length (next_text k) ∙ length-append (text_of k) (entry_text k) in
      let q = put_then p.put (entry_text k) (sym e) f (omega arith) (omega (arith, text_size (k + 1), p.put.size, p.room)) in
      record { room = p.room; few = omega arith; put = record { size = ap length (next_text k) ∙ q.size; is = rw (next_text k) q.is } }

  pub putting_all : 1024 ≤ k → b ≡ curve_text
  putting_all h =
      let q : k ≡ 1024 = omega (arith, p.few) in
      let e : b ≡ put_at l 0 (text_of 1024) = rw q at p.put.is in
      e ∙ put_at-whole l (text_of 1024) (omega (arith, text_size 1024, p.room))
