-- Every moment is a cut.
use Prim.Native.Nat.{ℕ, ◌+◌, ◌-◌, ◌<◌, ◌≤◌}
use mathlib.Core.Path.{◌≡◌, refl, ap, sym, ◌∙◌}
use mathlib.Core.List.{List, [], ◌∷◌, ◌++◌, append_assoc}
use native.Mathlib.Omega.{arith}
use lib.ListN.{length, take, drop, length-drop, length-append, take-append-drop}
use lib.Seq.{take_all, length-take-le, drop-drop}
use lib.Dec.{leb, eqb}
use borrow.Author.Tests.{leb-false, eqb-true, eqb-false}
use Rattle.layout.specs.Lists.{All, more, put}
use Rattle.layout.specs.Types.{Bytes}
use Rattle.layout.proofs.Cases.{by_cases}
use Rattle.layout.proofs.PutLaws.{put-length, put-none}
use Rattle.writer.specs.WritesAndCuttingRule.{Write, carried, CutLeaves, ended, torn, old, took}
use Rattle.power_cut.specs.LoadingBook.{begun}
use Rattle.power_cut.specs.PowerCut.{begin, all_writes, PowerCut}
use Rattle.power_cut.proofs.ElementLaws.{bytes_append}
use Rattle.power_cut.proofs.Follow.{begin-accepted}
use Rattle.power_cut.proofs.Whole.{power_cut, kept0, writes-is}
use Rattle.power_cut_moments.specs.Moments.{reached, slot_at, taken_at, Inside, EveryMoment, PowerCutAtMoments}
use Rattle.power_cut_moments.proofs.ByteLaws.{bytes_take, bytes_drop, bytes_put}
use Rattle.power_cut_moments.proofs.MomentLaws.{reached_in}
use Rattle.power_cut_moments.proofs.WriteLaws.{run_inside}

-- ---- The write under way

-- What a part of a write leaves in its range: its first bytes, then the old ones.
left_in : (s : List ℕ) (at : ℕ) (bs : List ℕ) (m : ℕ) → List ℕ
left_in s at bs m = take m bs ++ take (length bs - m) (drop (at + m) s)

module _ (s : List ℕ) (at : ℕ) (bs : List ℕ) (m : ℕ) (h : at + length bs ≤ length s) (l : m < length bs) where
  first : length (take m bs) ≡ m
  first = length-take-le m bs (omega arith)

  rest : length (take (length bs - m) (drop (at + m) s)) ≡ length bs - m
  rest = length-take-le (length bs - m) (drop (at + m) s) (omega (arith, length-drop (at + m) s))

  left-length : length (left_in s at bs m) ≡ length bs
  unfolding left_in
  left-length = omega (arith, length-append (take m bs) (take (length bs - m) (drop (at + m) s)), first, rest)

  left-put : put s at (left_in s at bs m) ≡ put s at (take m bs)
  unfolding left_in
  left-put =
      let n : at + length (left_in s at bs m) ≡ at + m + (length bs - m) = omega (arith, left-length) in
      let d : drop (at + length (left_in s at bs m)) s ≡ drop (length bs - m) (drop (at + m) s) = rw (n, drop-drop) in
      ap (λ (x : List ℕ). take at s ++ left_in s at bs m ++ x) d
      ∙ simp append_assoc (rw (take-append-drop, first))

  left_bytes : Bytes s → Bytes bs → Bytes (left_in s at bs m)
  unfolding left_in
  left_bytes b c =
      bytes_append (take m bs) (take (length bs - m) (drop (at + m) s)) (bytes_take m bs c)
      (bytes_take (length bs - m) (drop (at + m) s) (bytes_drop (at + m) s b))

under_way : (s : List ℕ) → Bytes s → (w : Write) (ws : List Write) → Inside (length s) w → (m : ℕ) → m < length w.bytes → CutLeaves s (w ∷ ws) 0 (reached s w m)
under_way s b w ws i m l =
    rw (reached_in s w.offset w.bytes m i.ends)
    (by_cases (eqb (length w.bytes) 1)
    (λ t.
    let e : length w.bytes ≡ 1 = eqb-true (length w.bytes) 1 t in
    let z : m ≡ 0 = omega arith in
    rw (z, put-none) (old e))
    (λ t.
    let n = left-length s w.offset w.bytes m i.ends l in
    rw (← left-put s w.offset w.bytes m i.ends l)
    (torn (left_in s w.offset w.bytes m) (left_bytes s w.offset w.bytes m i.ends l b i.bytes) n
    (λ q. eqb-false (length w.bytes) 1 t (omega arith)))))

-- ---- The list

inside_in : {n m : ℕ} {ws : List Write} → n ≡ m → All (Inside n) ws → All (Inside m) ws
inside_in e a = rw (sym e) a

every : (s : List ℕ) → Bytes s → (ws : List Write) → All (Inside (length s)) ws → (m : ℕ) → CutLeaves s ws (taken_at ws m) (slot_at s ws m)
unfolding taken_at slot_at
every s b [] a m = ended
every s b (w ∷ ws) (more i a) m =
    by_cases (leb (length w.bytes) m)
    (λ t.
    let e : reached s w (length w.bytes) ≡ carried s w = reached_in s w.offset w.bytes (length w.bytes) i.ends
    ∙ ap (put s w.offset) (take_all (length w.bytes) w.bytes (omega arith)) in
    let n : length (carried s w) ≡ length s = put-length s w.offset w.bytes i.ends in
    rw (t, e) (took (every (carried s w) (bytes_put s w.offset w.bytes b i.bytes) ws (inside_in (sym n) a) (m - length w.bytes))))
    (λ t. rw t (under_way s b w ws i m (leb-false (length w.bytes) m t)))

pub every_moment : EveryMoment
unfolding EveryMoment
every_moment = every

pub at_moments : PowerCutAtMoments
unfolding PowerCutAtMoments PowerCut
at_moments earlier s ch c mode lent l a calls t m =
    let begins = begin-accepted (length earlier) ch mode lent a in
    let inside : All (Inside (length earlier)) (all_writes (begin (length earlier) ch mode lent) calls) =
    rw (writes-is earlier ch mode lent begins calls t) (run_inside (begun (length earlier) ch mode) calls t (kept0 earlier ch mode lent begins calls t) refl) in
    ((power_cut earlier s ch c mode lent l).2 a calls t).cut (taken_at _ m) (slot_at earlier _ m) (every earlier s.bytes _ inside m)
