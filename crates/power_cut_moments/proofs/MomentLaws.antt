-- The first bytes of a write, and of a list of writes.
use Prim.Native.Nat.{ℕ, ◌+◌, ◌-◌, ◌<◌, ◌≤◌, min}
use mathlib.Core.Path.{◌≡◌, refl, ap, sym, ◌∙◌}
use mathlib.Core.Bool.{true}
use mathlib.Core.List.{List, [], ◌∷◌}
use native.Mathlib.Omega.{arith}
use native.Mathlib.Numerals.{add-one}
use lib.ListN.{length, take, drop, get_or, set, length-take, drop_of_length-le}
use lib.Seq.{take-suc, length-take-le, drop-cons}
use lib.Dec.{leb}
use borrow.Author.Tests.{le-leb, lt-leb, leb-true, leb-false}
use Rattle.layout.specs.Lists.{put}
use Rattle.layout.specs.Puts.{put_at}
use Rattle.layout.proofs.Cases.{by_cases}
use Rattle.layout.proofs.PutLaws.{put-length, put-none, put_one, put_at_in, put_at_byte}
use Rattle.writer.specs.WritesAndCuttingRule.{Write, write, writes_in}
use Rattle.writer.specs.declared.Place.{Place}
use Rattle.power_cut_moments.specs.Moments.{reached, slot_at, reached_next, next_byte}
use Rattle.power_cut_moments.proofs.ByteLaws.{same-take}

-- ---- One write

module _ (s : List ℕ) (at : ℕ) (bs : List ℕ) (n : ℕ) where
  pub reached_in : at + length bs ≤ length s → reached s (write at bs) n ≡ put s at (take n bs)
  unfolding reached
  reached_in h = rw (le-leb (at + length bs) (length s) h)

  pub reached_out : length s < at + length bs → reached s (write at bs) n ≡ s
  unfolding reached
  reached_out h = rw (lt-leb (at + length bs) (length s) h)

  pub reached-length : length (reached s (write at bs) n) ≡ length s
  reached-length =
      by_cases (leb (at + length bs) (length s))
      (λ t.
      let h : at + length bs ≤ length s = leb-true (at + length bs) (length s) t in
      rw (reached_in h) (put-length s at (take n bs) (omega (arith, length-take n bs))))
      (λ t. ap length (reached_out (leb-false (at + length bs) (length s) t)))

  -- What is put is as much as is there.
  pub reached_by : {m : ℕ} {t : List ℕ} → m ≡ min n (length bs) → at + length bs ≤ length s → t ≡ put_at s at (take m bs) → t ≡ reached s (write at bs) n
  reached_by e h p =
      p ∙ rw (same-take n bs e, reached_in h) (put_at_in s at (take n bs) (omega (arith, length-take n bs)))

-- One byte more, where the write lies in the slot.
module _ (s : List ℕ) (at : ℕ) (bs : List ℕ) (k : ℕ) where
  pub next_in : at + length bs ≤ length s → k < length bs → set s (at + k) (get_or bs k 0) ≡ reached_next s (write at bs) k
  unfolding reached_next
  next_in h l =
      let b = get_or bs k 0 in
      rw (le-leb (at + length bs) (length s) h, drop-cons bs k 0) (put_at_byte s (at + k) b (omega arith) ∙ put_at_in s (at + k) (b ∷ []) (omega arith))

  pub next_done : length bs ≤ k → s ≡ reached_next s (write at bs) k
  unfolding reached_next
  next_done l =
      let d : drop k bs ≡ [] = drop_of_length-le bs {i = k} l in
      by_cases (leb (at + length bs) (length s)) (λ t. rw (t, d) (sym (put-none s (at + k)))) (λ t. rw t)

  pub next_out : length s < at + length bs → s ≡ reached_next s (write at bs) k
  unfolding reached_next
  next_out h = rw (lt-leb (at + length bs) (length s) h)

  -- Of the first k bytes it makes the first k + 1.
  next-reached : k < length bs → reached_next (reached s (write at bs) k) (write at bs) k ≡ reached s (write at bs) (k + 1)
  unfolding reached_next
  next-reached l =
      let t = reached s (write at bs) k in
      let n : length t ≡ length s = reached-length s at bs k in
      by_cases (leb (at + length bs) (length s))
      (λ q.
      let h : at + length bs ≤ length s = leb-true (at + length bs) (length s) q in
      let b = get_or bs k 0 in
      let f : length (take k bs) ≡ k = length-take-le k bs (omega arith) in
      let e : set t (at + k) b ≡ reached s (write at bs) (k + 1) =
      rw (reached_in s at bs k h, reached_in s at bs (k + 1) h, add-one, take-suc bs k 0) (put_one s at (take k bs) b (at + k) (ap (λ (m : ℕ). at + m) f) (omega arith)) in
      rw (n, q, drop-cons bs k 0) (sym (put_at_byte t (at + k) b (omega arith) ∙ put_at_in t (at + k) (b ∷ []) (omega arith)) ∙ e))
      (λ q. let o = leb-false (at + length bs) (length s) q in rw (n, q) (reached_out s at bs k o ∙ sym (reached_out s at bs (k + 1) o)))

-- ---- The next moment

-- At moment 0 nothing has reached the slot.
none-reached : (s : List ℕ) (w : Write) → reached s w 0 ≡ s
unfolding reached
none-reached s w =
    by_cases (leb (w.offset + length w.bytes) (length s)) (λ t. rw t (put-none s w.offset)) (λ t. rw t)

pub slot_start : (s : List ℕ) (ws : List Write) → slot_at s ws 0 ≡ s
unfolding slot_at
slot_start s [] = refl
slot_start s (w ∷ ws) =
    by_cases (leb (length w.bytes) 0)
    (λ t.
    let n : length w.bytes ≡ 0 = omega (arith, leb-true (length w.bytes) 0 t) in
    rw (n, none-reached s w) (slot_start s ws))
    (λ t. rw (t, none-reached s w))

-- Where the first write has reached the slot whole, the others are next.
slot_later : (s : List ℕ) (w : Write) (ws : List Write) (m : ℕ) → leb (length w.bytes) m ≡ true → slot_at s (w ∷ ws) m ≡ slot_at (reached s w (length w.bytes)) ws (m - length w.bytes)
unfolding slot_at
slot_later s w ws m t = rw t

next_later : (s : List ℕ) (w : Write) (ws : List Write) (m : ℕ) → leb (length w.bytes) m ≡ true → next_byte s (w ∷ ws) m ≡ next_byte s ws (m - length w.bytes)
unfolding next_byte
next_later s w ws m t = rw t

-- One byte more of the slot at a moment is the slot at the next.
pub next_slot : (s : List ℕ) (ws : List Write) (m : ℕ) → next_byte (slot_at s ws m) ws m ≡ slot_at s ws (m + 1)
unfolding slot_at next_byte
next_slot s [] m = refl
next_slot s (w ∷ ws) m =
    let n = length w.bytes in
    by_cases (leb n m)
    (λ t.
    let h : n ≤ m = leb-true n m t in
    let k : m + 1 - n ≡ m - n + 1 = omega arith in
    next_later (slot_at s (w ∷ ws) m) w ws m t
    ∙ ap (λ (x : List ℕ). next_byte x ws (m - n)) (slot_later s w ws m t)
    ∙ next_slot (reached s w n) ws (m - n)
    ∙ ap (slot_at (reached s w n) ws) (sym k)
    ∙ sym (slot_later s w ws (m + 1) (le-leb n (m + 1) (omega arith))))
    (λ t.
    let h : m < n = leb-false n m t in
    let e = next-reached s w.offset w.bytes m h in
    by_cases (leb n (m + 1))
    (λ u.
    let l = leb-true n (m + 1) u in
    let k : m + 1 ≡ n = omega arith in
    let z : m + 1 - n ≡ 0 = omega arith in
    rw (t, u, z) (e ∙ rw k (sym (slot_start (reached s w n) ws))))
    (λ u. rw (t, u) e))

-- ---- A list of writes, one after the other

-- Past the last place there is no write.
module _ (s : List ℕ) (places : List Place) (bytes : List ℕ) (i m : ℕ) (h : length places ≤ i) where
  pub slot_past : slot_at s (writes_in (drop i places) bytes) m ≡ s
  unfolding slot_at writes_in
  slot_past = rw (drop_of_length-le places {i = i} h)

  pub next_past : next_byte s (writes_in (drop i places) bytes) m ≡ s
  unfolding next_byte writes_in
  next_past = rw (drop_of_length-le places {i = i} h)

-- The place that is next, its bytes and those after them.
module _ (s : List ℕ) (places : List Place) (bytes : List ℕ) (i m : ℕ) (d : Place) {part after : List ℕ} (l : i < length places)
    (p : part ≡ take (get_or places i d).length bytes) (q : after ≡ drop (get_or places i d).length bytes) where
  place_next : writes_in (drop i places) bytes ≡ write (get_or places i d).offset part ∷ writes_in (drop (i + 1) places) after
  unfolding writes_in
  place_next = rw (add-one i, drop-cons places i d l, p, q)

  pub slot_part : m < length part → reached s (write (get_or places i d).offset part) m ≡ slot_at s (writes_in (drop i places) bytes) m
  unfolding slot_at
  slot_part h = rw (place_next, lt-leb (length part) m h)

  pub slot_more : length part ≤ m → slot_at (reached s (write (get_or places i d).offset part) (length part)) (writes_in (drop (i + 1) places) after) (m - length part)
      ≡ slot_at s (writes_in (drop i places) bytes) m
  slot_more h = rw (place_next) (sym (slot_later s _ _ m (le-leb (length part) m h)))

  pub next_part : m < length part → reached_next s (write (get_or places i d).offset part) m ≡ next_byte s (writes_in (drop i places) bytes) m
  unfolding next_byte
  next_part h = rw (place_next, lt-leb (length part) m h)

  pub next_more : length part ≤ m → next_byte s (writes_in (drop (i + 1) places) after) (m - length part) ≡ next_byte s (writes_in (drop i places) bytes) m
  next_more h = rw (place_next) (sym (next_later s _ _ m (le-leb (length part) m h)))
