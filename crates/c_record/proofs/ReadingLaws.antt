-- Coefficients and cues read one after the other.
use Prim.Native.Nat.{ℕ, zero, suc, ◌+◌, ◌*◌, ◌-◌, ◌≤◌, ◌<◌}
use mathlib.Core.Path.{◌≡◌, refl, sym, ap, ◌∙◌}
use mathlib.Core.List.{List, [], ◌∷◌, ◌++◌, append-nil}
use native.Mathlib.Omega.{arith}
use native.Mathlib.Numerals.{add-one}
use lib.ListN.{length, set, take, drop, replicate, length-append, length-replicate}
use lib.Seq.{set_at, append_snoc}
use Rattle.std.proofs.lemmas.List.{take-replicate, drop-replicate}
use lib.IntN.{ℤ, pos}
use Rattle.writer.specs.Calls.{no_cue}
use Rattle.writer.specs.declared.Cue.{Cue}
use Rattle.layout_number_or_zero.specs.NumberOrZero.{signed_at}
use Rattle.c_record.specs.KeptSides.{signed_from, cue_in, cues_kept, table_in}
use Rattle.layout.specs.Refusals.{cue_limit}

-- ---- Things of one size, one after the other

-- a list that reads the thing at a place and goes on some bytes later
module _ {A : Type 0} (blank : A) (most gap : ℕ) (one : ℕ → A) (some : (at n : ℕ) → List A)
    (none : (at : ℕ) → some at 0 ≡ []) (more : (at n : ℕ) → some at (suc n) ≡ one at ∷ some (at + gap) n) where
  some-length : (at n : ℕ) → length (some at n) ≡ n
  some-length at zero = rw (none at)
  some-length at (suc n) = rw (more at n) (ap suc (some-length (at + gap) n))

  some-last : (at n : ℕ) → some at n ++ (one (at + gap * n) ∷ []) ≡ some at (suc n)
  some-last at zero = let e : at + gap * 0 ≡ at = omega arith in rw (none at, e, more at 0, none (at + gap))
  some-last at (suc n) =
      let e : at + gap * suc n ≡ at + gap + gap * n = omega arith in
      rw (more at n, more at (suc n), e) (ap (λ (l : List A). one at ∷ l) (some-last (at + gap) n))

  -- of an array of blanks the first i are read
  pub record Reading (at : ℕ) (xs : List A) (i : ℕ) : Type 0 where
    pub few : i ≤ most
    pub is : xs ≡ some at i ++ replicate (most - i) blank

  pub reading_none : (at : ℕ) → Reading at (replicate most blank) 0
  reading_none at = let e : most - 0 ≡ most = omega arith in record { few = omega arith; is = rw (none at, e) }

  pub reading_more : (at : ℕ) (xs : List A) (i : ℕ) (x : A) → Reading at xs i → i < most → x ≡ one (at + gap * i) → Reading at (set xs i x) (i + 1)
  reading_more at xs i x r h e =
      let rest = replicate (most - (i + 1)) blank in
      let n : most - i ≡ suc (most - (i + 1)) = omega arith in
      record {
        few = omega arith;
        is =
            rw (r.is, n, set_at (some at i) blank rest x i (some-length at i), e)
            (sym (append_snoc (some at i) (one (at + gap * i)) rest) ∙ ap (λ (l : List A). l ++ rest) (some-last at i ∙ ap (some at) (sym (add-one i))));
      }

-- ---- Coefficients

module _ (s : List ℕ) where
  pub signed_none : (at : ℕ) → signed_from s at 0 ≡ []
  unfolding signed_from
  signed_none at = refl

  pub signed_more : (at n : ℕ) → signed_from s at (suc n) ≡ signed_at s at ∷ signed_from s (at + 2) n
  unfolding signed_from
  signed_more at n = refl

  -- of sixteen numbers the first i are read
  abbrev pub Signed : (at : ℕ) (zs : List ℤ) (i : ℕ) → Type 0
  Signed = Reading (pos 0) 16 2 (signed_at s) (signed_from s) signed_none signed_more

  pub signed_start : (at : ℕ) → Signed at (replicate 16 (pos 0)) 0
  signed_start = reading_none (pos 0) 16 2 (signed_at s) (signed_from s) signed_none signed_more

  pub signed_again : (at : ℕ) (zs : List ℤ) (i : ℕ) (z : ℤ) → Signed at zs i → i < 16 → z ≡ signed_at s (at + 2 * i) → Signed at (set zs i z) (i + 1)
  signed_again = reading_more (pos 0) 16 2 (signed_at s) (signed_from s) signed_none signed_more

  pub signed_end : (at : ℕ) (zs : List ℤ) (i : ℕ) → Signed at zs i → 16 ≤ i → zs ≡ signed_from s at 16
  signed_end at zs i r h = let e : i ≡ 16 = omega (arith, r.few) in r.is ∙ rw e (append-nil (signed_from s at 16))

-- ---- Cues

module _ (s : List ℕ) where
  pub cues-none : (at : ℕ) → cues_kept s at 0 ≡ []
  unfolding cues_kept
  cues-none at = refl

  pub cues-more : (at n : ℕ) → cues_kept s at (suc n) ≡ cue_in s at ∷ cues_kept s (at + 24) n
  unfolding cues_kept
  cues-more at n = refl

  -- of n zero cues the first i are read
  abbrev pub Cues : (n at : ℕ) (cs : List Cue) (i : ℕ) → Type 0
  Cues n = Reading no_cue n 24 (cue_in s) (cues_kept s) cues-none cues-more

  module _ (n at : ℕ) (h : n ≤ cue_limit) where
    zeros-length : length (take n (replicate cue_limit no_cue)) ≡ n
    zeros-length = rw (take-replicate n cue_limit no_cue h) (length-replicate n no_cue)

    pub cues-start : Cues n at (take n (replicate cue_limit no_cue)) 0
    cues-start = rw (take-replicate n cue_limit no_cue h) (reading_none no_cue n 24 (cue_in s) (cues_kept s) cues-none cues-more at)

    pub cues_again : (cs : List Cue) (i : ℕ) (c : Cue) → Cues n at cs i → i < length (take n (replicate cue_limit no_cue)) → c ≡ cue_in s (at + 24 * i) → Cues n at (set cs i c) (i + 1)
    cues_again cs i c r l e = reading_more no_cue n 24 (cue_in s) (cues_kept s) cues-none cues-more at cs i c r (rw zeros-length at l) e

    -- with the zeros that are left they are the table
    pub cues_end : (cs : List Cue) (i : ℕ) → Cues n at cs i → length (take n (replicate cue_limit no_cue)) ≤ i → cs ++ drop n (replicate cue_limit no_cue) ≡ table_in s at n
    unfolding table_in
    cues_end cs i r l =
        let m : n ≤ i = rw zeros-length at l in
        let e : i ≡ n = omega (arith, r.few) in
        let z : n - n ≡ 0 = omega arith in
        let w : cs ≡ cues_kept s at n = r.is ∙ rw (e, z) (append-nil (cues_kept s at n)) in
        rw (w, drop-replicate n cue_limit no_cue)

  pub table-length : (at n : ℕ) → n ≤ cue_limit → length (table_in s at n) ≡ cue_limit
  unfolding table_in
  table-length at n h =
      length-append (cues_kept s at n) (replicate (cue_limit - n) no_cue)
      ∙ rw (some-length no_cue cue_limit 24 (cue_in s) (cues_kept s) cues-none cues-more at n, length-replicate (cue_limit - n) no_cue) (omega arith)
