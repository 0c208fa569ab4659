-- The opening record put into lent bytes: its offsets one after the other, and its parts.
use Rattle.std.proofs.Common.{Option}
use Prim.Native.Nat.{ℕ, ◌+◌, ◌*◌, ◌-◌, ◌%◌, ◌≤◌, ◌<◌}
use mathlib.Core.Path.{◌≡◌, refl, sym, ap, ◌∙◌}
use mathlib.Core.List.{List, [], ◌∷◌, ◌++◌, append_assoc, append-nil, flat_map}
use native.Mathlib.Omega.{arith}
use native.Mathlib.Numerals.{add-one}
use lib.ListN.{length, take, get_or, replicate, length-replicate}
use lib.Seq.{take-suc, length-take-le}
use Rattle.std.proofs.lemmas.List.{take_all}
use borrow.Author.Tests.{eq-eqb, ne_eqb}
use Rattle.layout.specs.Puts.{put_at}
use Rattle.layout.specs.Records.{be32, file_header_size}
use Rattle.layout.proofs.Lengths.{be32-length}
use Rattle.layout.proofs.PutLaws.{Put, put_then, put_at-none, put_at-length}
use Rattle.c_opened.proofs.ReadBackLaws.{offsets_length, file-length}
use Rattle.c_opened.specs.KeptReader.{loop_number, file_kept, offsets_kept, opened_parts, opened_size, offsets_at}
use Rattle.layout.specs.Refusals.{block_limit}

-- ---- Offsets

one_more : (os : List ℕ) (x : ℕ) → flat_map be32 (os ++ (x ∷ [])) ≡ flat_map be32 os ++ be32 x
unfolding flat_map
one_more [] x = append-nil (be32 x)
one_more (o ∷ os) x = ap (λ (l : List ℕ). be32 o ++ l) (one_more os x) ∙ sym (append_assoc (be32 o) (flat_map be32 os) (be32 x))

-- the first i offsets are put
pub record OffsetsPut (l os b : List ℕ) (i : ℕ) : Type 0 where
  pub few : i ≤ length os
  pub room : offsets_at + 4 * length os ≤ length l
  pub same : length b ≡ length l
  pub is : Put l offsets_at (4 * i) (flat_map be32 (take i os)) b

module _ {l os : List ℕ} where
  pub offsets_none : length os ≤ block_limit → opened_size ≤ length l → OffsetsPut l os l 0
  unfolding flat_map
  offsets_none h g = record { few = omega arith; room = omega arith; same = refl; is = record { size = refl; is = sym (put_at-none l offsets_at) } }

  module _ {b : List ℕ} {i : ℕ} (p : OffsetsPut l os b i) where
    pub offsets_more : {b' : List ℕ} → i < length os → b' ≡ put_at b (offsets_at + 4 * i) (be32 (get_or os i 0)) → OffsetsPut l os b' (i + 1)
    offsets_more {b'} lt e =
        let k = p.room in
        let j : flat_map be32 (take i os) ++ be32 (get_or os i 0) ≡ flat_map be32 (take (i + 1) os) =
        sym (one_more (take i os) (get_or os i 0)) ∙ ap (flat_map be32) (sym (take-suc os i 0 lt) ∙ ap (λ (m : ℕ). take m os) (sym (add-one i))) in
        let q : Put l offsets_at (4 * i + 4) (flat_map be32 (take i os) ++ be32 (get_or os i 0)) b' = put_then p.is (be32 (get_or os i 0)) (be32-length _) e refl (omega arith) in
        let z : 4 * i + 4 ≡ 4 * (i + 1) = omega arith in
        record {
          few = omega arith;
          room = p.room;
          same = ap length e ∙ put_at-length b _ _ ∙ p.same;
          is = record { size = ap length (sym j) ∙ q.size ∙ z; is = q.is ∙ ap (put_at l offsets_at) j };
        }

    pub offsets_all : length os ≤ i → b ≡ put_at l offsets_at (flat_map be32 os)
    offsets_all h = let f = p.few in let e : i ≡ length os = omega arith in p.is.is ∙ ap (λ (m : List ℕ). put_at l offsets_at (flat_map be32 m)) (ap (λ (m : ℕ). take m os) e ∙ take_all (length os) os (omega arith))

-- ---- The file header

module _ (k : List ℕ) {k' : List ℕ} (s : List ℕ) (count : ℕ) where
  pub both-channels : count ≡ 2 → k' ≡ put_at k 0 (take file_header_size s) → k' ≡ put_at k 0 (file_kept s count)
  unfolding file_kept
  both-channels h e = rw (eq-eqb count 2 h) e

  pub one-channel : {k'' : List ℕ} → (count ≡ 2 → ⊥) → file_header_size ≤ length s → opened_size ≤ length k → k' ≡ put_at k 0 (take 72 s) → k'' ≡ put_at k' 72 (replicate 56 0)
      → k'' ≡ put_at k 0 (file_kept s count)
  unfolding file_kept
  one-channel h g r e f =
      let n : length (take 72 s) ≡ 72 = length-take-le 72 s (omega arith) in
      let p : Put k 0 72 (take 72 s) k' = record { size = n; is = e } in
      let q = put_then p (replicate 56 0) (length-replicate {A = ℕ} 56 0) f refl (omega arith) in
      rw (ne_eqb count 2 h) q.is

-- ---- The record

pub opened-put : (k k1 k2 k3 k4 : List ℕ) {k5 : List ℕ} (s : List ℕ) (count : ℕ) (start : Option ℕ) (os : List ℕ) {number : ℕ} → length os ≤ block_limit → file_header_size ≤ length s
    → opened_size ≤ length k
    → k1 ≡ put_at k 0 (file_kept s count) → k2 ≡ put_at k1 file_header_size (be32 (length os % 4294967296)) → number ≡ loop_number start → k3 ≡ put_at k2 132 (be32 number)
    → k4 ≡ put_at k3 offsets_at (flat_map be32 os) → k5 ≡ put_at k4 (offsets_at + 4 * length os) (replicate (2048 - 4 * length os) 0) → k5 ≡ put_at k 0 (opened_parts s count (length os) start os)
unfolding opened_parts offsets_kept
opened-put k k1 k2 k3 k4 {k5} s count start os b h g e1 e2 l e3 e4 e5 =
    let n = length os in
    let m : n % 4294967296 ≡ n = omega arith in
    let p : Put k 0 file_header_size (file_kept s count) k1 = record { size = file-length s count h; is = e1 } in
    let q = put_then p (be32 n) (be32-length n) (e2 ∙ ap (λ (x : ℕ). put_at k1 file_header_size (be32 x)) m) refl (omega arith) in
    let u = put_then q (be32 (loop_number start)) (be32-length _) (e3 ∙ ap (λ (x : ℕ). put_at k2 132 (be32 x)) l) refl (omega arith) in
    let z : 2048 - 4 * n ≡ 4 * (block_limit - n) = omega arith in
    let m3 : length k3 ≡ length k = ap length u.is ∙ put_at-length _ _ _ in
    let v : Put k3 offsets_at (4 * n) (flat_map be32 os) k4 = record { size = offsets_length os; is = e4 } in
    let o = put_then v (replicate (4 * (block_limit - n)) 0) (length-replicate {A = ℕ} (4 * (block_limit - n)) 0) (e5 ∙ ap (λ (x : ℕ). put_at k4 (offsets_at + 4 * n) (replicate x 0)) z) refl
    (omega arith) in
    rw (take_all (length os) os (omega arith)) (put_then u (flat_map be32 os ++ replicate (4 * (block_limit - n)) 0) o.size o.is refl (omega arith)).is
