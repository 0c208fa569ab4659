-- Portions of listings, filled and compared.
use Prim.Native.Nat.{ℕ, ◌+◌, ◌-◌, ◌<◌, ◌≤◌}
use mathlib.Core.Path.{◌≡◌, refl, ap, sym, ◌∙◌}
use mathlib.Core.List.{List, ◌++◌, append_assoc, append_cancel_left}
use native.Mathlib.Omega.{arith}
use lib.ListN.{length, take, drop, length-append, length-take, length-drop}
use lib.Seq.{length-take-le, take-append-le, take_at, take-add, take-take, drop-drop, drop-append_seam}
use lib.Dec.{eqb}
use lib.Pointwise.{pointwise, bytes_decides}
use mathlib.Core.Bool.{Bool, true, false, not}
use Rattle.layout.proofs.Cases.{apart}
use Rattle.layout.proofs.PutLaws.{put_at_in, put_at-length}
use Rattle.reader.specs.declared.HpsReader.{HpsReader}
use Rattle.key_listing.specs.MarkingKey.{lines_from, listing_from}
use Rattle.key_listing.specs.Filling.{FilledIs, lines_fitting}
use Rattle.key_listing.proofs.LineLaws.{filled-fits, filled-rest, filled_none}
use Rattle.key_listing.specs.declared.Stage.{Stage}
use Rattle.key_listing.specs.declared.listing.Line.{Line}
use Rattle.key_print.specs.declared.Portion.{Portion}
use Rattle.key_print.specs.Portions.{Held, portion_bytes, still_listed, MoreIs}

-- ---- A portion filled

-- nothing is left of the portion
used_up : (s : List ℕ) (r : HpsReader) (p : Portion) (out : List ℕ) → p.end ≤ p.at → still_listed s r p out ≡ listing_from s r p.stage
unfolding still_listed
used_up s r p out n = let z : p.end - p.at ≡ 0 = omega arith in rw z

module _ {s : List ℕ} {r : HpsReader} {stage : Stage} {before after : List ℕ} {x : Line} (f : FilledIs s r stage before after x) where
  abbrev lines : List ℕ
  lines = lines_fitting (length before) (lines_from s r stage)

  -- the lines are the first bytes of the buffer
  first_lines : take x.length after ≡ lines
  first_lines =
      let h : 0 + length lines ≤ length before = omega (arith, f.long, filled-fits f) in
      rw (f.put, put_at_in before 0 lines h) (take_at lines _ x.length (sym f.long))

  -- where the listing from some byte on is the one from this stage on, the buffer has its next bytes
  module _ (all : List ℕ) (from : ℕ) (e : drop from all ≡ listing_from s r stage) where
    pub next_bytes : take x.length after ≡ take x.length (drop from all)
    next_bytes = first_lines ∙ sym (rw (e, filled-rest f) (take_at lines _ x.length (sym f.long)))

    -- and after them stands the one from the next stage on
    pub next_from : drop (from + x.length) all ≡ listing_from s r x.stage
    next_from =
        sym (drop-drop x.length from all) ∙ rw (e, filled-rest f, f.long) (drop-append_seam lines (listing_from s r x.stage))

    pub next-inside : from ≤ length all → from + x.length ≤ length all
    next-inside l =
        omega (arith, f.long, simp length-drop at (ap length e), ap length (filled-rest f), length-append lines (listing_from s r x.stage))

    -- nothing was filled: all is printed
    pub all_printed : 60 ≤ length before → x.length ≡ 0 → from ≤ length all → from ≡ length all
    all_printed b z l =
        omega (
          arith,
          f.long,
          simp length-drop at (ap length e),
          ap length (filled-rest f),
          length-append lines (listing_from s r x.stage),
          ap length (filled_none f b z),
        )

  -- less is still to be listed
  pub less_listed : (x.length ≡ 0 → ⊥) → length (listing_from s r x.stage) < length (listing_from s r stage)
  less_listed h = omega (arith, f.long, ap length (filled-rest f), length-append lines (listing_from s r x.stage))

  -- the next portion
  pub more-filled : {p : Portion} → p.stage ≡ stage → p.end ≤ p.at → 60 ≤ length before
      → MoreIs s r p before (record { stage = x.stage; at = 0; end = x.length }) after
  unfolding still_listed
  more-filled {p} e n b =
      let l : length after ≡ length before = ap length f.put ∙ put_at-length before 0 lines in
      let whole : x.length - 0 ≡ x.length = omega arith in
      record {
        held = record { order = omega arith; inside = omega (arith, filled-fits f) };
        long = l;
        same =
            rw whole (ap (λ (l : List ℕ). l ++ listing_from s r x.stage) first_lines ∙ sym (filled-rest f) ∙ ap (listing_from s r) (sym e)
            ∙ sym (used_up s r p before n));
        ended = λ z. rw (← z) (filled_none f b (sym z));
      }

-- ---- A portion passed

-- its first k bytes left out
abbrev past : Portion → ℕ → Portion
past p k = record { stage = p.stage; at = p.at + k; end = p.end }

bytes_long : {p : Portion} {out : List ℕ} → Held p out → length (portion_bytes p out) ≡ p.end - p.at
bytes_long {p} {out} h =
    let o = h.order in
    let i = h.inside in
    simp (length-take, length-drop) (omega arith)

pub held_next : {p : Portion} {out : List ℕ} (k : ℕ) → Held p out → k ≤ p.end - p.at → Held (past p k) out
held_next {p} k h l =
    let o = h.order in
    record { order = omega arith; inside = h.inside }

-- its next k bytes, as a slice of the buffer
next_slice : (p : Portion) (out : List ℕ) (k : ℕ) → k ≤ p.end - p.at → take ((p.at + k) - p.at) (drop p.at out) ≡ take k (portion_bytes p out)
next_slice p out k h = let e : (p.at + k) - p.at ≡ k = omega arith in rw e (sym (take-take k (p.end - p.at) (drop p.at out) h))

not-false : (b : Bool) → false ≡ not b → b ≡ true
not-false true e = refl
not-false false e = cc

module _ (s : List ℕ) (r : HpsReader) (p : Portion) (out : List ℕ) (h : Held p out) where
  -- its bytes are still to be listed
  bytes_left : p.end - p.at ≤ length (still_listed s r p out)
  unfolding still_listed
  bytes_left = omega (arith, bytes_long h, length-append (portion_bytes p out) (listing_from s r p.stage))

  -- and come first
  first-left : (k : ℕ) → k ≤ length (portion_bytes p out) → take k (still_listed s r p out) ≡ take k (portion_bytes p out)
  unfolding still_listed
  first-left k l = take-append-le k (portion_bytes p out) (listing_from s r p.stage) l

  -- its first k bytes, and what is left after them
  passed : (k : ℕ) → k ≤ length (portion_bytes p out) → still_listed s r p out ≡ take k (portion_bytes p out) ++ still_listed s r (past p k) out
  unfolding still_listed
  passed k l =
      let x = bytes_long h in
      let o = h.order in
      let i = h.inside in
      let d : p.end - p.at ≡ k + (p.end - (p.at + k)) = omega arith in
      let e : portion_bytes p out ≡ take k (portion_bytes p out) ++ take (p.end - (p.at + k)) (drop (p.at + k) out) =
      ap (λ (n : ℕ). take n (drop p.at out)) d
      ∙ take-add k (p.end - (p.at + k)) (drop p.at out)
      ∙ rw (drop-drop k p.at out, take-take k (p.end - p.at) (drop p.at out) (omega arith)) in
      ap (λ (l : List ℕ). l ++ listing_from s r p.stage) e
      ∙ append_assoc (take k (portion_bytes p out)) (take (p.end - (p.at + k)) (drop (p.at + k) out)) (listing_from s r p.stage)

-- ---- Two listings, compared

-- Two lists are the same if and only if what is left of them is.
pub record Alike (whole other left right : List ℕ) : Type 0 where
  pub back : left ≡ right → whole ≡ other
  pub on : whole ≡ other → left ≡ right

pub alike_start : (a b : List ℕ) (r q : HpsReader) (left right : Portion) (out other : List ℕ) → left.end ≤ left.at → right.end ≤ right.at
    → Alike (listing_from a r left.stage) (listing_from b q right.stage) (still_listed a r left out) (still_listed b q right other)
alike_start a b r q left right out other h i =
    rw (used_up a r left out h, used_up b q right other i) (record { back = λ e. e; on = λ e. e })

module _ {a b whole whole2 : List ℕ} {r q : HpsReader} {p p2 left right : Portion} {m m2 out other : List ℕ}
    (w : Alike whole whole2 (still_listed a r p m) (still_listed b q p2 m2)) (f : MoreIs a r p m left out) (g : MoreIs b q p2 m2 right other) where
  now : Alike whole whole2 (still_listed a r left out) (still_listed b q right other)
  now = rw (f.same, g.same) w

  -- the left one alone has
  pub ended-one : left.at ≡ left.end → (right.at ≡ right.end → ⊥) → whole ≡ whole2 → ⊥
  ended-one e d z =
      let o = g.held.order in
      let l = ap length (sym (now.on z) ∙ f.ended e) in
      omega (arith, bytes_left b q right other g.held)

  -- the right one alone has
  pub ended-other : right.at ≡ right.end → (left.at ≡ left.end → ⊥) → whole ≡ whole2 → ⊥
  ended-other e d z =
      let o = f.held.order in
      let l = ap length (now.on z ∙ g.ended e) in
      omega (arith, bytes_left a r left out f.held)

  module _ (k : ℕ) (h : k ≤ left.end - left.at) (i : k ≤ right.end - right.at) where
    here : k ≤ length (portion_bytes left out)
    here = omega (arith, bytes_long f.held)

    there : k ≤ length (portion_bytes right other)
    there = omega (arith, bytes_long g.held)

    abbrev differ : Bool
    differ = not (pointwise eqb (take ((left.at + k) - left.at) (drop left.at out)) (take ((right.at + k) - right.at) (drop right.at other)))

    -- their next k bytes differ
    pub apart-here : true ≡ differ → whole ≡ whole2 → ⊥
    apart-here d z =
        let e : take k (portion_bytes left out) ≡ take k (portion_bytes right other) =
        sym (first-left a r left out f.held k here) ∙ ap (take k) (now.on z) ∙ first-left b q right other g.held k there in
        apart (rw ((bytes_decides _ _).1 (next_slice left out k h ∙ e ∙ sym (next_slice right other k i))) at d)

    -- they are the same, and are passed
    pub alike_next : false ≡ differ → Alike whole whole2 (still_listed a r (past left k) out) (still_listed b q (past right k) other)
    alike_next d =
        let e : take k (portion_bytes left out) ≡ take k (portion_bytes right other) =
        sym (next_slice left out k h) ∙ (bytes_decides _ _).0 (not-false _ d) ∙ next_slice right other k i in
        let x = passed a r left out f.held k here in
        let y = rw (← e) at (passed b q right other g.held k there) in
        record {
          back = λ e. now.back (x ∙ ap (λ (l : List ℕ). take k (portion_bytes left out) ++ l) e ∙ sym y);
          on = λ e. append_cancel_left (take k (portion_bytes left out)) _ _ (sym x ∙ now.on e ∙ y);
        }

    pub less_left : (k ≡ 0 → ⊥) → length (still_listed a r (past left k) out) < length (still_listed a r p m)
    less_left n =
        let v = length-take-le k (portion_bytes left out) here in
        let y = ap length f.same in
        omega (arith, simp length-append at (ap length (passed a r left out f.held k here)))

-- Both are refused with the same number.
pub same-stops : {x y : Stage} {n m : ℕ} → x ≡ Stage.Stop n → y ≡ Stage.Stop m → n ≡ m → (s t : List ℕ) (r q : HpsReader)
    → listing_from s r x ≡ listing_from t q y
unfolding lines_from
same-stops d e i s t r q = rw (d, e, i)
