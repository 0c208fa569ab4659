-- Counting marks and looking for the highest free frame, and the ways of a take and of a give.
use Prim.Native.Nat.{ℕ, zero, suc, ◌+◌, ◌-◌, ◌≤◌, ◌<◌}
use mathlib.Core.Path.{◌≡◌, refl, sym, ap, ◌∙◌}
use mathlib.Core.Bool.{Bool, true, false, not}
use mathlib.Core.List.{List}
use native.Mathlib.Omega.{arith}
use native.Mathlib.Numerals.{add-one}
use lib.Dec.{eqb, ltb}
use lib.ListN.{get_or, length, take}
use lib.Seq.{take_all}
use borrow.Author.Tests.{eqb-true, eqb-false, lt-ltb, le-ltb, ltb-true, ltb-false}
use Rattle.std.specs.Prelude.{Option, Some, None, count_by, MatchOption, EachIndex, slice_index_or}
use Rattle.std.specs.Option.{unwrap_or}
use Rattle.std.proofs.lemmas.List.Sums.{count_by_more_yes, count_by_more_no}
use Rattle.std.proofs.lemmas.Bool.{eq-eqb, ne_eqb}
use Rattle.layout.proofs.Cases.{by_cases, apart}
use Rattle.frame_pool.specs.FramePool.{Mark, same_mark, frame_count, share, count_marked, highest_free, has_mark, other_decoder, free_frames, lacks, with_mark, is_held_by, TakeReply, TakeCall}
use Rattle.frame_pool.specs.FramePool.{served_take, refused_take, take_of, accepted_give, refused_give, give_of}
use Rattle.frame_pool.specs.MarkBytes.{mark_byte}
use Rattle.frame_pool.specs.declared.DecoderId.{DecoderId}
use Rattle.frame_pool.specs.declared.Pool.{Pool}

-- ---- One mark and another

pub same_mark-true : (m n : Mark) → same_mark m n ≡ true → m ≡ n
same_mark-true None None h = refl
same_mark-true None (Some e) h = apart (sym h)
same_mark-true (Some d) None h = apart (sym h)
same_mark-true (Some DecoderId.A) (Some DecoderId.A) h = refl
same_mark-true (Some DecoderId.A) (Some DecoderId.B) h = apart (sym h)
same_mark-true (Some DecoderId.B) (Some DecoderId.A) h = apart (sym h)
same_mark-true (Some DecoderId.B) (Some DecoderId.B) h = refl

same_mark-itself : (m : Mark) → same_mark m m ≡ true
same_mark-itself None = refl
same_mark-itself (Some DecoderId.A) = refl
same_mark-itself (Some DecoderId.B) = refl

pub eq-same_mark : (m n : Mark) → m ≡ n → same_mark m n ≡ true
eq-same_mark m n e = rw e (same_mark-itself n)

pub same_mark-false : (m n : Mark) → same_mark m n ≡ false → m ≡ n → ⊥
same_mark-false m n h e = apart (sym (eq-same_mark m n e) ∙ h)

pub ne-same_mark : (m n : Mark) → (m ≡ n → ⊥) → same_mark m n ≡ false
ne-same_mark m n h = by_cases (same_mark m n) (λ t. absurd (h (same_mark-true m n t))) (λ t. t)

-- A mark's byte tells it from the others.
byte_tells : (m n : Mark) → eqb (mark_byte m) (mark_byte n) ≡ same_mark m n
byte_tells None None = refl
byte_tells None (Some DecoderId.A) = refl
byte_tells None (Some DecoderId.B) = refl
byte_tells (Some DecoderId.A) None = refl
byte_tells (Some DecoderId.A) (Some DecoderId.A) = refl
byte_tells (Some DecoderId.A) (Some DecoderId.B) = refl
byte_tells (Some DecoderId.B) None = refl
byte_tells (Some DecoderId.B) (Some DecoderId.A) = refl
byte_tells (Some DecoderId.B) (Some DecoderId.B) = refl

module _ (m n : Mark) {a b : ℕ} (h : a ≡ mark_byte m) (k : b ≡ mark_byte n) where
  pub bytes_alike : a ≡ b → same_mark m n ≡ true
  bytes_alike e = sym (byte_tells m n) ∙ eq-eqb (mark_byte m) (mark_byte n) (sym h ∙ e ∙ k)

  pub bytes_apart : (a ≡ b → ⊥) → same_mark m n ≡ false
  bytes_apart e = sym (byte_tells m n) ∙ ne_eqb (mark_byte m) (mark_byte n) (λ q. e (h ∙ q ∙ sym k))

-- ---- Counting, from frame 0 on

counted_first : (m : Mark) (l : List Mark) (n : ℕ) → n ≤ length l → count_by (λ x. same_mark x m) (take n l) ≡ count_marked n m l
unfolding count_marked
counted_first m l zero h = refl
counted_first m l (suc n) h =
    by_cases (same_mark (get_or l n None) m)
    (λ t. rw t (omega (arith, rw (add-one n) at (count_by_more_yes (λ x. same_mark x m) l n None (omega arith) t), counted_first m l n (omega arith))))
    (λ t. rw t (omega (arith, rw (add-one n) at (count_by_more_no (λ x. same_mark x m) l n None (omega arith) t), counted_first m l n (omega arith))))

pub count_hit : (m : Mark) (l : List Mark) (n i : ℕ) → same_mark (get_or l i None) m ≡ true → n ≡ count_marked i m l → n + 1 ≡ count_marked (i + 1) m l
unfolding count_marked
count_hit m l n i e s = rw (add-one i, e) (omega arith)

pub count_miss : (m : Mark) (l : List Mark) (n i : ℕ) → same_mark (get_or l i None) m ≡ false → n ≡ count_marked i m l → n ≡ count_marked (i + 1) m l
unfolding count_marked
count_miss m l n i e s = rw (add-one i, e) (omega arith)

-- all of them, by what the chain gives
pub counted : (m : Mark) (l : List Mark) {n : ℕ} → length l ≡ frame_count → n ≡ count_by (λ x. same_mark x m) l → n ≡ count_marked frame_count m l
counted m l h e = e ∙ ap (count_by (λ x. same_mark x m)) (sym (take_all frame_count l (omega arith))) ∙ counted_first m l frame_count (omega arith)

-- ---- Looking for the highest free frame, from the last one down

-- what a search from the end has found
abbrev pub LastFree : List Mark → Option ℕ → Type 0
LastFree l r =
    MatchOption r (EachIndex l (λ k. same_mark (slice_index_or l k None) None ≡ false))
    (λ i. (i < length l) × (same_mark (slice_index_or l i None) None ≡ true) × ((k : ℕ) → i < k → k < length l → same_mark (slice_index_or l k None) None ≡ false))

none_free : (l : List Mark) (n : ℕ) → ((k : ℕ) → k < n → same_mark (get_or l k None) None ≡ false) → highest_free n l ≡ 0
unfolding highest_free
none_free l zero h = refl
none_free l (suc n) h = rw (h n (omega arith)) (none_free l n (λ k j. h k (omega arith)))

one_free : (l : List Mark) (i n : ℕ) → i < n → same_mark (get_or l i None) None ≡ true → ((k : ℕ) → i < k → k < n → same_mark (get_or l k None) None ≡ false)
    → highest_free n l ≡ i
unfolding highest_free
one_free l i zero h t none = absurd (omega arith)
one_free l i (suc n) h t none =
    by_cases (eqb i n)
    (λ s. let e : n ≡ i = sym (eqb-true i n s) in rw (e, t))
    (λ s.
    let k : i < n = omega (arith, eqb-false i n s) in
    rw (none n k (omega arith)) (one_free l i n k t (λ j a b. none j a (omega arith))))

pub last_free : (l : List Mark) (r : Option ℕ) → length l ≡ frame_count → LastFree l r → unwrap_or r 0 ≡ highest_free frame_count l
last_free l None e h = sym (none_free l frame_count (λ k j. h k (omega arith)))
last_free l (Some i) e h = sym (one_free l i frame_count (omega (arith, h.0)) h.1 (λ k a b. h.2 k a (omega arith)))

pub highest-below : (n : ℕ) (l : List Mark) → 0 < n → highest_free n l < n
unfolding highest_free
highest-below zero l h = h
highest-below (suc zero) l h = by_cases (same_mark (get_or l 0 None) None) (λ t. rw t (omega arith)) (λ t. rw t (omega arith))
highest-below (suc (suc n)) l h =
    by_cases (same_mark (get_or l (suc n) None) None)
    (λ t. rw t (omega arith))
    (λ t. rw t (omega (arith, highest-below (suc n) l (omega arith))))

-- ---- A frame's mark

pub mark_outside : (l : List Mark) (m : Mark) (f : ℕ) → frame_count ≤ f → has_mark l m f ≡ false
unfolding has_mark
mark_outside l m f h = simp (le-ltb f frame_count h)

pub mark_inside : (l : List Mark) (m : Mark) (f : ℕ) → f < frame_count → has_mark l m f ≡ same_mark (get_or l f None) m
unfolding has_mark
mark_inside l m f h = simp (lt-ltb f frame_count h)

-- ---- The two ways of a take

module _ (p : Pool) (d : DecoderId) where
  pub take_refused : ltb (lacks (other_decoder d) p) (free_frames p) ≡ false → take_of p d ≡ refused_take p
  unfolding take_of
  take_refused h = simp h

  pub take_served : ltb (lacks (other_decoder d) p) (free_frames p) ≡ true → take_of p d ≡ served_take p d
  unfolding take_of
  take_served h = simp h

  -- ---- Those of a give

  pub give_refused : (f : ℕ) → is_held_by d p f ≡ false → give_of p d f ≡ refused_give p
  unfolding give_of
  give_refused f h = simp h

  pub give_accepted : (f : ℕ) → is_held_by d p f ≡ true → give_of p d f ≡ accepted_give p f
  unfolding give_of
  give_accepted f h = simp h

-- ---- What the code has found by its calls

not-true : (t : Bool) → not t ≡ true → t ≡ false
not-true true h = sym h
not-true false h = refl

not-false : (t : Bool) → not t ≡ false → t ≡ true
not-false true h = refl
not-false false h = sym h

module _ (p : Pool) (d o : DecoderId) (free held : ℕ) (t : Bool) (a : free ≡ count_marked frame_count None p.marks) (b : o ≡ other_decoder d)
    (h : held ≡ count_marked frame_count (Some o) p.marks) (k : t ≡ ltb (share - held) free) where
  test_is : t ≡ ltb (lacks (other_decoder d) p) (free_frames p)
  test_is = k ∙ rw (a, h, b)

  pub refused_by : not t ≡ true → refused_take p ≡ take_of p d
  refused_by n = sym (take_refused p d (sym test_is ∙ not-true t n))

  pub served_by : (f : ℕ) → f ≡ highest_free frame_count p.marks → not t ≡ false
      → ◌≡◌ {A = TakeCall} (record { reply = TakeReply.Frame f; pool = with_mark p f (Some d) }) (take_of p d)
  served_by f e n = rw e (sym (take_served p d (sym test_is ∙ not-false t n)))

module _ (p : Pool) (d : DecoderId) (f : ℕ) (t : Bool) (k : t ≡ has_mark p.marks (Some d) f) where
  held-is : t ≡ is_held_by d p f
  held-is = k

  pub not_held : not t ≡ true → refused_give p ≡ give_of p d f
  not_held n = sym (give_refused p d f (sym held-is ∙ not-true t n))

  pub given_back : not t ≡ false → accepted_give p f ≡ give_of p d f
  given_back n = sym (give_accepted p d f (sym held-is ∙ not-false t n))

  pub held-inside : not t ≡ false → f < frame_count
  held-inside n =
      by_cases (ltb f frame_count) (λ s. ltb-true f frame_count s)
      (λ s. apart (sym (not-false t n) ∙ k ∙ mark_outside p.marks (Some d) f (ltb-false f frame_count s)))
