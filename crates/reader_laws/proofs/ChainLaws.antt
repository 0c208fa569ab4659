-- What a walk that ends has found: blocks whose headers lie in the slot, at different offsets, the loop start among them.
use Rattle.std.proofs.Common.{Option, Some, None}
use Prim.Native.Nat.{ℕ, zero, suc, ◌+◌, ◌≤◌, ◌<◌}
use mathlib.Core.Path.{◌≡◌, refl, sym, ap, ◌∙◌}
use mathlib.Core.List.{List, [], ◌∷◌, ◌++◌}
use native.Mathlib.Omega.{arith}
use native.Mathlib.Nat.{le_of_suc-le-suc, not-suc-le-zero}
use lib.ListN.{length, get_or, length-append, get_or-append}
use lib.Seq.{get_or-append_seam}
use lib.Dec.{ltb, eqb}
use borrow.Author.Tests.{eq-eqb, ltb-true, ltb-false}
use Rattle.layout.specs.Lists.{All, first_index}
use Rattle.layout.specs.Records.{Read, read_header}
use Rattle.layout.specs.declared.BlockHeader.{BlockHeader}
use Rattle.layout.proofs.Cases.{by_cases}
use Rattle.layout.proofs.ListLaws.{all_snoc}
use Rattle.reader.specs.OpeningAndReading.{first_at, Walked, walk_from}
use Rattle.reader.proofs.HeaderLaws.{header_cases}
use Rattle.reader.proofs.OpenedLaws.{not_walked}

-- ---- Lists

-- an element that is there is found, there or before
found_by : (x : ℕ) (xs : List ℕ) (i : ℕ) → i < length xs → get_or xs i 0 ≡ x → first_at x xs ≤ i
unfolding first_index
found_by x [] i h e = absurd (not-suc-le-zero h)
found_by x (y ∷ ys) zero h e = simp (eq-eqb y x e) (omega arith)
found_by x (y ∷ ys) (suc i) h e =
    by_cases (eqb y x) (λ t. simp t (omega arith)) (λ t. simp t (omega (arith, found_by x ys i (le_of_suc-le-suc h) e)))

-- pairwise different
abbrev pub Different : List ℕ → Type 0
Different xs = (i j : ℕ) → i < j → j < length xs → get_or xs i 0 ≡ get_or xs j 0 → ⊥

different_snoc : (xs : List ℕ) (x : ℕ) → Different xs → ((i : ℕ) → i < length xs → get_or xs i 0 ≡ x → ⊥) → Different (xs ++ (x ∷ []))
different_snoc xs x d f i j l m e =
    let n : length (xs ++ (x ∷ [])) ≡ length xs + 1 = length-append xs (x ∷ []) in
    let a : get_or (xs ++ (x ∷ [])) i 0 ≡ get_or xs i 0 = get_or-append xs (x ∷ []) 0 i (omega arith) in
    by_cases (ltb j (length xs))
    (λ t.
    let b : get_or (xs ++ (x ∷ [])) j 0 ≡ get_or xs j 0 = get_or-append xs (x ∷ []) 0 j (ltb-true j (length xs) t) in
    d i j l (ltb-true j (length xs) t) (sym a ∙ e ∙ b))
    (λ t.
    let k : j ≡ length xs = omega (arith, ltb-false j (length xs) t) in
    let b : get_or (xs ++ (x ∷ [])) j 0 ≡ x = ap (λ (n : ℕ). get_or (xs ++ (x ∷ [])) n 0) k ∙ get_or-append_seam xs x [] 0 in
    f i (omega arith) (sym a ∙ e ∙ b))

-- ---- The walk

-- a block's header lies in the slot
abbrev pub InSlot : List ℕ → ℕ → Type 0
InSlot s o = (h : BlockHeader) × (read_header s o ≡ Read.value h)

-- what the walk from an offset on has found, with n blocks left to read
pub record Found (s : List ℕ) (n : ℕ) (seen : List ℕ) (at : ℕ) (os : List ℕ) (start : Option ℕ) : Type 0 where
  pub read : All (InSlot s) os
  pub different : Different os
  pub some : 1 ≤ length os
  pub few : length os ≤ length seen + n
  pub first : get_or os 0 0 ≡ get_or (seen ++ (at ∷ [])) 0 0
  pub loop : (i : ℕ) → start ≡ Some i → i < length os

same_walked : {os xs : List ℕ} {a b : Option ℕ} → Walked.walked os a ≡ Walked.walked xs b → (os ≡ xs) × (a ≡ b)
same_walked e = (cc, cc)

no_block : (i : ℕ) → None ≡ Some i → ⊥
no_block i e = cc

same_block : (i j : ℕ) → Some i ≡ Some j → j ≡ i
same_block i j e = cc

module _ (n : ℕ) (s seen : List ℕ) (at : ℕ) where
  snoc_length : length (seen ++ (at ∷ [])) ≡ length seen + 1
  snoc_length = length-append seen (at ∷ [])

  -- the walk ends at this block
  ended_found : InSlot s at → All (InSlot s) seen → Different seen → ((i : ℕ) → i < length seen → get_or seen i 0 ≡ at → ⊥) → (os : List ℕ) (start : Option ℕ)
      → seen ++ (at ∷ []) ≡ os → ((i : ℕ) → start ≡ Some i → i < length os) → Found s (suc n) seen at os start
  ended_found q a d f os start e l =
      rw (← e) (record {
        read = all_snoc a q;
        different = different_snoc seen at d f;
        some = omega (arith, snoc_length);
        few = omega (arith, snoc_length);
        first = refl;
        loop = rw e l;
      })

  -- it goes on to another
  on_found : (next : ℕ) (os : List ℕ) (start : Option ℕ) → Found s n (seen ++ (at ∷ [])) next os start → Found s (suc n) seen at os start
  on_found next os start w =
      record {
        read = w.read;
        different = w.different;
        some = w.some;
        few = omega (arith, w.few, snoc_length);
        first = w.first ∙ get_or-append (seen ++ (at ∷ [])) (next ∷ []) 0 0 (omega (arith, snoc_length));
        loop = w.loop;
      }

pub walk_found : (n : ℕ) (s seen : List ℕ) (at : ℕ) (os : List ℕ) (start : Option ℕ) → All (InSlot s) seen → Different seen → ((i : ℕ) → i < length seen → get_or seen i 0 ≡ at → ⊥)
    → walk_from n s seen at ≡ Walked.walked os start → Found s n seen at os start
unfolding walk_from
walk_found zero s seen at os start a d f e = not_walked 5 os start e
walk_found (suc n) s seen at os start a d f e =
    header_cases s at
    (λ t. not_walked 1 os start (rw t at e))
    (λ h t.
    let seen1 = seen ++ (at ∷ []) in
    let next = h.next_offset in
    let e1 = rw t at e in
    by_cases (eqb next 4294967295)
    (λ u.
    let k = same_walked (rw u at e1) in
    ended_found n s seen at (h, t) a d f os start k.0 (λ i x. absurd (no_block i (k.1 ∙ x))))
    (λ u.
    let e2 = rw u at e1 in
    by_cases (ltb (first_at next seen1) (length seen1))
    (λ v.
    let k = same_walked (rw v at e2) in
    ended_found n s seen at (h, t) a d f os start k.0
    (λ i x. rw (← k.0) (omega (arith, same_block (first_at next seen1) i (k.1 ∙ x), ltb-true (first_at next seen1) (length seen1) v))))
    (λ v.
    on_found n s seen at next os start
    (walk_found n s seen1 next os start (all_snoc a (h, t)) (different_snoc seen at d f)
    (λ i l x. omega (arith, found_by next seen1 i l x, ltb-false (first_at next seen1) (length seen1) v)) (rw v at e2)))))
