-- The bytes of the cues that a block takes, put one part after the other.
use Prim.Native.Nat.{ℕ, ◌+◌, ◌-◌, ◌*◌, ◌/◌, ◌%◌, ◌<◌, ◌≤◌}
use mathlib.Core.Path.{◌≡◌, refl, ap, sym, ◌∙◌}
use mathlib.Core.Bool.{Bool, true, false}
use mathlib.Core.List.{List, [], ◌∷◌, ◌++◌, flat_map}
use native.Mathlib.Omega.{arith}
use native.Mathlib.Numerals.{add-one}
use lib.ListN.{length, get_or, length-append}
use lib.Seq.{slice}
use Rattle.layout.specs.Lists.{filter}
use Rattle.layout.specs.Records.{padded_size, be32, cue_bytes, fillers}
use Rattle.layout.specs.Puts.{put_at}
use Rattle.layout.specs.Sizes.{saturated}
use Rattle.layout.proofs.Lengths.{be32-length, cue-length, cues-length, filled-length}
use Rattle.layout.proofs.SizeLaws.{aligned}
use Rattle.layout.proofs.PutLaws.{put_at-length, put_at_out, put_at-none, put_at-next, put_then}
use Rattle.writer.specs.Loading.{loops, points, points_of}
use Rattle.writer_assign_cues.specs.Taking.{cue_point, point_bytes, filled_bytes}
use Rattle.writer.specs.declared.Cue.{Cue}
use Rattle.writer.proofs.CueLaws.{points-length}
use Rattle.writer_assign_cues.proofs.TakeLaws.{unrolled, none_left}
use Rattle.layout.specs.Refusals.{cue_limit}

-- ---- A cue point

-- a number by its low 32 bits
low_bits : (n : ℕ) → be32 (n % 4294967296) ≡ be32 n
unfolding be32
low_bits n =
    let a : n % 4294967296 / 16777216 % 256 ≡ n / 16777216 % 256 = omega arith in
    let b : n % 4294967296 / 65536 % 256 ≡ n / 65536 % 256 = omega arith in
    let c : n % 4294967296 / 256 % 256 ≡ n / 256 % 256 = omega arith in
    let d : n % 4294967296 % 256 ≡ n % 256 = omega arith in
    rw (a, b, c, d)

pub point-put : (l b b' : List ℕ) (at i n : ℕ) → at + 8 ≤ length l → b ≡ put_at l at (be32 (i % 4294967296)) → b' ≡ put_at b (at + 4) (be32 (n % 4294967296))
    → b' ≡ put_at l at (cue_bytes (cue_point i n))
unfolding cue_bytes
point-put l b b' at i n h e f =
    (put_then (record { size = be32-length i; is = e ∙ ap (put_at l at) (low_bits i) }) (be32 n) (be32-length n) (f ∙ ap (put_at b (at + 4)) (low_bits n)) refl (omega arith)).is

-- ---- Points and ranges of a part of the table

-- those up to k are put, the next one at p with the id n
pub record Points (l : List ℕ) (at base id : ℕ) (t : List Cue) (from to : ℕ) (b : List ℕ) (p n k : ℕ) : Type 0 where
  pub above : from ≤ k
  pub within : k ≤ to
  pub ids : n + from ≤ id + k
  pub long : length b ≡ length l
  pub room : p + length (point_bytes base n (slice k to t)) ≤ length l
  pub rest : put_at b p (point_bytes base n (slice k to t)) ≡ put_at l at (point_bytes base id (slice from to t))

pub points-start : (l : List ℕ) (at base id : ℕ) (t : List Cue) (from to : ℕ) → from ≤ to → at + length (point_bytes base id (slice from to t)) ≤ length l
    → Points l at base id t from to l at id from
points-start l at base id t from to h r = record { above = omega arith; within = h; ids = omega arith; long = refl; room = r; rest = refl }

module _ (l : List ℕ) (at base id : ℕ) (t : List Cue) (from to : ℕ) (b : List ℕ) (p n k : ℕ)
    (len : length t ≡ cue_limit) (most : to ≤ cue_limit) (inv : Points l at base id t from to b p n k) where
  module _ (z : Cue) (q : Bool) (lt : k < to) (is : q ≡ loops (get_or t k z).kind) where
    pub points_skip : q ≡ true → Points l at base id t from to b p n (k + 1)
    unfolding point_bytes points_of
    points_skip h =
        let e : point_bytes base n (slice k to t) ≡ point_bytes base n (slice (k + 1) to t) = rw (unrolled t to k len most z lt, sym is ∙ h) in
        record { above = omega (arith, inv.above); within = omega arith; ids = omega (arith, inv.ids); long = inv.long; room = rw e at inv.room; rest = rw e at inv.rest }

    module _ (h : q ≡ false) where
      one : point_bytes base n (slice k to t) ≡ cue_bytes (cue_point ((get_or t k z).start - base) n) ++ point_bytes base (n + 1) (slice (k + 1) to t)
      unfolding point_bytes points_of flat_map
      one = rw (unrolled t to k len most z lt, sym is ∙ h, add-one n)

      pub point-room : p + 8 ≤ length b
      point-room =
          let m = ap length one ∙ length-append (cue_bytes (cue_point ((get_or t k z).start - base) n)) _ in
          omega (arith, inv.room, inv.long, m, cue-length (cue_point ((get_or t k z).start - base) n))

      pub points-more : (b' : List ℕ) (i : ℕ) → i ≡ (get_or t k z).start - base → b' ≡ put_at b p (cue_bytes (cue_point i n))
          → Points l at base id t from to b' (p + 8) (n + 1) (k + 1)
      points-more b' i ei e =
          let x : List ℕ = cue_bytes (cue_point ((get_or t k z).start - base) n) in
          let r : List ℕ = point_bytes base (n + 1) (slice (k + 1) to t) in
          let e' : b' ≡ put_at b p x = e ∙ ap (λ (m : ℕ). put_at b p (cue_bytes (cue_point m n))) ei in
          let lx : length x ≡ 8 = cue-length (cue_point ((get_or t k z).start - base) n) in
          let la : length (x ++ r) ≡ 8 + length r = length-append x r ∙ ap (λ (m : ℕ). m + length r) lx in
          let lo : length (point_bytes base n (slice k to t)) ≡ 8 + length r = ap length one ∙ la in
          let s : put_at (put_at b p x) (p + length x) r ≡ put_at b p (x ++ r) = put_at-next b p x r (omega (arith, inv.room, inv.long)) in
          let s' : put_at b' (p + 8) r ≡ put_at b p (x ++ r) = rw (e', ← lx) s in
          record {
            above = omega (arith, inv.above);
            within = omega arith;
            ids = omega (arith, inv.ids);
            long = ap length e' ∙ put_at-length b p x ∙ inv.long;
            room = omega (arith, inv.room);
            rest = s' ∙ ap (put_at b p) (sym one) ∙ inv.rest;
          }

  pub points_end : to ≤ k → b ≡ put_at l at (point_bytes base id (slice from to t))
  unfolding point_bytes points_of flat_map
  points_end ge =
      let e : point_bytes base n (slice k to t) ≡ [] = rw (none_left t to k len most ge) in
      sym (put_at-none b p) ∙ rw e at inv.rest

-- ---- The cues taken

point-length : (b n : ℕ) (cs : List Cue) → length (point_bytes b n cs) ≡ 8 * points cs
unfolding point_bytes
point-length b n cs = cues-length (points_of b n cs) ∙ ap (λ (m : ℕ). 8 * m) (points-length b n cs)

fill_length : (b n : ℕ) (cs : List Cue) → length (point_bytes b n cs) + length (flat_map cue_bytes (fillers (points cs))) ≡ padded_size (8 * points cs)
unfolding point_bytes
fill_length b n cs = rw (points-length b n cs) at (filled-length (points_of b n cs))

pub taken_length : (b n : ℕ) (cs : List Cue) → length (filled_bytes b n cs) ≡ padded_size (8 * points cs)
unfolding filled_bytes
taken_length b n cs = length-append (point_bytes b n cs) _ ∙ fill_length b n cs

pub fill_place : (at k n : ℕ) → at + padded_size (8 * k) ≤ n → at + 8 * k ≤ n
unfolding padded_size
fill_place at k n h = omega arith

module _ (l : List ℕ) (at base id k : ℕ) (cs : List Cue) (counted : k ≡ points cs) where
  pub no_points : k ≡ 0 → l ≡ put_at l at (filled_bytes base id cs)
  unfolding padded_size
  no_points z = sym (ap (put_at l at) (empty (filled_bytes base id cs) (taken_length base id cs ∙ omega arith)) ∙ put_at-none l at)
    where
      empty : (xs : List ℕ) → length xs ≡ 0 → xs ≡ []
      empty [] e = refl
      empty (x ∷ xs) e = absurd (omega arith)

  module _ (room : at + padded_size (8 * k) ≤ length l) where
    pub points-room : at + length (point_bytes base id cs) ≤ length l
    points-room =
        let e : padded_size (8 * k) ≡ padded_size (8 * points cs) = ap (λ (m : ℕ). padded_size (8 * m)) counted in
        omega (arith, fill_length base id cs)

    pub taken_put : (b b' : List ℕ) → b ≡ put_at l at (point_bytes base id cs) → b' ≡ put_at b (at + 8 * k) (flat_map cue_bytes (fillers k))
        → b' ≡ put_at l at (filled_bytes base id cs)
    unfolding filled_bytes
    taken_put b b' e f =
        let p : padded_size (8 * k) ≡ padded_size (8 * points cs) = ap (λ (m : ℕ). padded_size (8 * m)) counted in
        let f' : b' ≡ put_at b (at + 8 * k) (flat_map cue_bytes (fillers (points cs))) = rw (← counted) f in
        let s = point-length base id cs in
        (put_then (record { size = s; is = e }) (flat_map cue_bytes (fillers (points cs))) refl f' (omega arith) (omega (arith, fill_length base id cs))).is

-- ---- Any places and any buffer

module _ (l : List ℕ) (at base id : ℕ) (cs : List Cue) where
  pub no_cues-put : cs ≡ [] → l ≡ put_at l at (filled_bytes base id cs)
  unfolding points filter
  no_cues-put e = no_points l at base id 0 cs (rw e) refl

  pub too_long : (k size : ℕ) → k ≡ points cs → size ≡ saturated (padded_size (8 * k)) → k ≤ cue_limit → length l < at + size → l ≡ put_at l at (filled_bytes base id cs)
  too_long k size ek es few h =
      let s : size ≡ padded_size (8 * k) = es ∙ aligned (8 * k) (omega arith) in
      sym (put_at_out l at (filled_bytes base id cs) (omega (arith, taken_length base id cs, ap (λ (m : ℕ). padded_size (8 * m)) ek)))

pub cues_size : (k size : ℕ) → size ≡ saturated (padded_size (8 * k)) → k ≤ cue_limit → size ≡ padded_size (8 * k)
cues_size k size e few = e ∙ aligned (8 * k) (omega arith)
