-- What a call does to the numbers of free and held frames.
use Prim.Native.Nat.{ℕ, zero, suc, ◌+◌, ◌≤◌, ◌<◌}
use mathlib.Core.Path.{◌≡◌, refl, sym, ap, ◌∙◌}
use mathlib.Core.List.{List}
use native.Mathlib.Omega.{arith}
use native.Mathlib.Nat.{not-suc-le-zero}
use lib.ListN.{length, get_or, set, length-set}
use lib.Seq.{get_or-set_same, get_or-set_other}
use lib.Dec.{eqb}
use borrow.Author.Tests.{eqb-true, eqb-false}
use Rattle.std.specs.Prelude.{Some, None}
use Rattle.layout.specs.Choice.{pick}
use Rattle.layout.proofs.Cases.{by_cases}
use Rattle.frame_pool.specs.FramePool.{frame_count, Mark, same_mark, count_marked, highest_free, other_decoder, free_frames, held_by, with_mark}
use Rattle.frame_pool.specs.declared.DecoderId.{DecoderId}
use Rattle.frame_pool.specs.declared.Pool.{Pool}
use Rattle.frame_pool.proofs.PoolLaws.{same_mark-true, same_mark-false}

-- ---- Counting after a mark has changed

-- does a frame with this mark count?
abbrev one : (x mark : Mark) → ℕ
one x m = pick (same_mark x m) 1 0

count-above : (n : ℕ) (m : Mark) (l : List Mark) (f : ℕ) (v : Mark) → n ≤ f → count_marked n m (set l f v) ≡ count_marked n m l
unfolding count_marked
count-above zero m l f v h = refl
count-above (suc n) m l f v h =
    rw (get_or-set_other l f n v None (omega arith), count-above n m l f v (omega arith))

count_set : (n : ℕ) (m : Mark) (l : List Mark) (f : ℕ) (v : Mark) → f < n → f < length l
    → count_marked n m (set l f v) + one (get_or l f None) m ≡ count_marked n m l + one v m
unfolding count_marked
count_set zero m l f v h g = absurd (not-suc-le-zero h)
count_set (suc n) m l f v h g =
    by_cases (eqb f n)
    (λ t.
    let e : n ≡ f = sym (eqb-true f n t) in
    rw e (rw (get_or-set_same l f v None g, count-above f m l f v (omega arith)) (omega arith)))
    (λ t.
    let e : f < n = omega (arith, eqb-false f n t) in
    rw (get_or-set_other l f n v None (λ x. eqb-false f n t (sym x))) (omega (arith, count_set n m l f v e g)))

-- ---- The highest free frame is free, and none above it is

pub highest_free_lem : (n : ℕ) (l : List Mark) → 0 < count_marked n None l → get_or l (highest_free n l) None ≡ None
unfolding count_marked highest_free
highest_free_lem zero l h = absurd (not-suc-le-zero h)
highest_free_lem (suc n) l h =
    by_cases (same_mark (get_or l n None) None) (λ t. rw t (same_mark-true (get_or l n None) None t)) (λ t. rw t (highest_free_lem n l (omega (arith, rw t at h))))

pub highest_top : (n : ℕ) (l : List Mark) (g : ℕ) → highest_free n l < g → g < n → get_or l g None ≡ None → ⊥
unfolding highest_free
highest_top zero l g h k e = not-suc-le-zero k
highest_top (suc n) l g h k e =
    by_cases (same_mark (get_or l n None) None) (λ t. let x = rw t at h in omega arith)
    (λ t.
    let x = rw t at h in
    by_cases (eqb g n) (λ s. same_mark-false (get_or l n None) None t (ap (λ (i : ℕ). get_or l i None) (sym (eqb-true g n s)) ∙ e))
    (λ s. highest_top n l g x (omega (arith, eqb-false g n s)) e))

-- ---- The numbers

its_own : (d : DecoderId) → one (Some d) (Some d) ≡ 1
its_own DecoderId.A = refl
its_own DecoderId.B = refl

not_free : (d : DecoderId) → one (Some d) None ≡ 0
not_free DecoderId.A = refl
not_free DecoderId.B = refl

not_held : (d : DecoderId) → one None (Some d) ≡ 0
not_held DecoderId.A = refl
not_held DecoderId.B = refl

not_the_other_s : (d : DecoderId) → one (Some d) (Some (other_decoder d)) ≡ 0
not_the_other_s DecoderId.A = refl
not_the_other_s DecoderId.B = refl

-- a frame has gone from the pool to decoder d; e is the other
pub record Took (p q : Pool) (d e : DecoderId) : Type 0 where
  pub frees : free_frames q + 1 ≡ free_frames p
  pub own : held_by d q ≡ held_by d p + 1
  pub other : held_by e q ≡ held_by e p

module _ (p : Pool) (f : ℕ) (h : f < frame_count) (n : length p.marks ≡ frame_count) where
  marked-count : (m v : Mark) → count_marked frame_count m (with_mark p f v).marks + one (get_or p.marks f None) m ≡ count_marked frame_count m p.marks + one v m
  marked-count m v = count_set frame_count m p.marks f v h (omega arith)

  pub marked-long : (v : Mark) → length (with_mark p f v).marks ≡ frame_count
  marked-long v = length-set p.marks f v ∙ n

  pub took : (d : DecoderId) → get_or p.marks f None ≡ None → Took p (with_mark p f (Some d)) d (other_decoder d)
  took d e =
      let o = other_decoder d in
      record {
        frees = omega (arith, rw e at (marked-count None (Some d)), not_free d);
        own = omega (arith, rw e at (marked-count (Some d) (Some d)), not_held d, its_own d);
        other = omega (arith, rw e at (marked-count (Some o) (Some d)), not_held o, not_the_other_s d);
      }

  pub gave : (d : DecoderId) → get_or p.marks f None ≡ Some d → Took (with_mark p f None) p d (other_decoder d)
  gave d e =
      let o = other_decoder d in
      record {
        frees = omega (arith, rw e at (marked-count None None), not_free d);
        own = omega (arith, rw e at (marked-count (Some d) None), not_held d, its_own d);
        other = omega (arith, rw e at (marked-count (Some o) None), not_held o, not_the_other_s d);
      }
