-- The loop over a block's frames: what was put and what is still to come are the whole, and the other places stand as they were.
use Prim.Native.Nat.{ℕ, suc, ◌+◌, ◌-◌, ◌*◌, ◌/◌, ◌≤◌, ◌<◌}
use mathlib.Core.Path.{◌≡◌, refl, sym, ap, ◌∙◌}
use mathlib.Core.List.{List, ◌++◌, append_assoc}
use native.Mathlib.Omega.{arith}
use borrow.Rule.Slice.PartMut.{put_mid}
use lib.ListN.{length, get_or, take, drop, length-take, length-drop, length-append}
use lib.Seq.{take_all, take-take, take_at, drop_at, drop-drop, get_or-drop, length-take-le}
use lib.IntN.{ℤ}
use Rattle.layout.specs.Records.{adpcm_bytes, adpcm_samples}
use Rattle.layout.specs.declared.FrameContext.{FrameContext}
use Rattle.adpcm_block.specs.Block.{Decoded, context_with, halves, pair_decoded, frame_halves, frames_decoded, block_decoded}
use Rattle.adpcm_block.proofs.HalfLaws.{counted-halves}
use Rattle.adpcm_block.proofs.CountLaws.{pair-count, samples_last, samples_more}

-- a part of the places, put anew
pub part_length : (at k : ℕ) (xs : List ℤ) → at + k ≤ length xs → length (take (at + k - at) (drop at xs)) ≡ k
part_length at k xs h = simp (length-take, length-drop) (omega arith)

part_put : (at k : ℕ) (xs ys : List ℤ) → put_mid at (at + k - at) xs ys ≡ take at xs ++ (ys ++ drop (at + k) xs)
part_put at k xs ys = let e : at + k - at ≡ k = omega arith in rw (e, drop-drop k at xs)

-- the half bytes of a frame that starts at a place of the data, before others
pub whole_frame : (bs : List ℕ) (first n : ℕ) → 16 < n → frame_halves n (drop first bs) ≡ take 14 (halves (drop (first + 1) bs))
whole_frame bs first n h =
    take_all (n - 2) (take 14 (halves (drop 1 (drop first bs)))) (simp length-take (omega arith)) ∙ ap (λ (xs : List ℕ). take 14 (halves xs)) (drop-drop 1 first bs)

-- and of the last
pub last_frame : (bs : List ℕ) (first n : ℕ) → n ≤ 16 → frame_halves n (drop first bs) ≡ take (n - 2) (halves (drop (first + 1) bs))
last_frame bs first n h =
    take-take (n - 2) 14 (halves (drop 1 (drop first bs))) (omega arith) ∙ ap (λ (xs : List ℕ). take (n - 2) (halves xs)) (drop-drop 1 first bs)

-- a frame before others, by what it is decoded to
pub frame_and_more : (bs : List ℕ) (cs : List ℤ) (c : FrameContext) (first n : ℕ) → 16 < n → {header : ℕ} {d : FrameContext} → header ≡ get_or bs (first + 8) 0
    → (let f = pair_decoded cs c (take 14 (halves (drop (first + 1) bs))) in
    let rest = frames_decoded ((n - 16 - 1) / 16) cs (context_with header d.last d.oldest) (n - 16) (drop (first + 8) bs) in
    d ≡ f.context → frames_decoded ((n - 1) / 16) cs c n (drop first bs) ≡ record { samples = f.samples ++ rest.samples; context = rest.context })
unfolding frames_decoded
frame_and_more bs cs c first n h {header} {d} w e =
    let k = (n - 16 - 1) / 16 in
    let i : (n - 1) / 16 ≡ suc k = omega arith in
    ap (λ (m : ℕ). frames_decoded m cs c n (drop first bs)) i
    ∙ rw (whole_frame bs first n h, sym e, get_or-drop first bs 8 0, drop-drop 8 first bs, sym w)

-- the decoding of a block of n addresses, of which `left` are still to be done, from the frame at `first` on
pub record Framing (bs : List ℕ) (cs : List ℤ) (n : ℕ) (whole : Decoded) (before after : List ℤ) (c : FrameContext) (left first at : ℕ) : Type 0 where
  pub done : take at after ++ (frames_decoded ((left - 1) / 16) cs c left (drop first bs)).samples ≡ whole.samples
  pub ends : (frames_decoded ((left - 1) / 16) cs c left (drop first bs)).context ≡ whole.context
  pub rest : drop at after ≡ drop at before
  pub size : length after ≡ length before
  pub bytes : first * 2 + left ≡ n
  pub count : at + adpcm_samples left ≡ adpcm_samples n

pub framing_first : (bs : List ℕ) (cs : List ℤ) (n : ℕ) (out : List ℤ) (c : FrameContext) → Framing bs cs n (block_decoded cs c n bs) out out c n 0 0
unfolding block_decoded
framing_first bs cs n out c = record { done = refl; ends = refl; rest = refl; size = refl; bytes = omega arith; count = omega arith }

module _ {bs : List ℕ} {cs : List ℤ} {n : ℕ} {whole : Decoded} {before after : List ℤ} {c : FrameContext} {left first at : ℕ} (d : Framing bs cs n whole before after c left first at) where
  -- the data and the places for a whole frame
  pub more-inside : 16 < left → adpcm_bytes n ≤ length bs → (14 ≤ 2 * (length bs - (first + 1))) × (first + 8 < length bs)
  unfolding adpcm_bytes
  more-inside l h = (omega (arith, d.bytes), omega (arith, d.bytes))

  pub more_room : 16 < left → adpcm_samples n ≤ length before → at + 14 ≤ length after
  more_room l h = omega (arith, d.count, d.size, samples_more left l)

  -- and for the last
  pub last-inside : left ≤ 16 → adpcm_bytes n ≤ length bs → left - 2 ≤ 2 * (length bs - (first + 1))
  unfolding adpcm_bytes
  last-inside l h = omega (arith, d.bytes)

  pub last-room : left ≤ 16 → adpcm_samples n ≤ length before → at + (left - 2) ≤ length after
  last-room l h = omega (arith, d.count, d.size, samples_last left l)

  -- over a whole frame
  pub framing_next : 16 < left → adpcm_bytes n ≤ length bs → at + 14 ≤ length after
      → {part : List ℤ} {next : FrameContext} {header : ℕ}
      → next ≡ (pair_decoded cs c (take 14 (halves (drop (first + 1) bs)))).context
      → part ≡ (pair_decoded cs c (take 14 (halves (drop (first + 1) bs)))).samples
      → header ≡ get_or bs (first + 8) 0
      → Framing bs cs n whole before (put_mid at (at + 14 - at) after part) (context_with header next.last next.oldest) (left - 16) (first + 8) (at + 14)
  framing_next l h room {part} {next} {header} e v w =
      let many = frame_and_more bs cs c first left l w e in
      let now = put_mid at (at + 14 - at) after part in
      let long : length part ≡ 14 = ap length v ∙ pair-count cs c _ ∙ counted-halves (drop (first + 1) bs) 14 (simp length-drop (more-inside l h).0) in
      let front : length (take at after ++ part) ≡ at + 14 =
      length-append (take at after) part ∙ (let q = length-take-le at after (omega arith) in omega (arith, q, long)) in
      let parts : now ≡ (take at after ++ part) ++ drop (at + 14) after = part_put at 14 after part ∙ sym (append_assoc (take at after) part (drop (at + 14) after)) in
      let put : take (at + 14) now ≡ take at after ++ part = ap (take (at + 14)) parts ∙ take_at (take at after ++ part) (drop (at + 14) after) (at + 14) front in
      let kept : drop (at + 14) now ≡ drop (at + 14) after = ap (drop (at + 14)) parts ∙ drop_at (take at after ++ part) (drop (at + 14) after) (at + 14) front in
      record {
        done = rw (put, v) (append_assoc (take at after) _ _ ∙ (rw many at d.done));
        ends = rw many at d.ends;
        rest = kept ∙ sym (drop-drop 14 at after) ∙ ap (drop 14) d.rest ∙ drop-drop 14 at before;
        size = ap length parts ∙ length-append (take at after ++ part) (drop (at + 14) after) ∙ (let q = length-drop (at + 14) after in omega (arith, front, q, d.size));
        bytes = omega (arith, d.bytes);
        count = omega (arith, d.count, samples_more left l);
      }

  -- over the last
  pub framing_all : left ≤ 16 → {part : List ℤ} {next : FrameContext}
      → next ≡ (pair_decoded cs c (take (left - 2) (halves (drop (first + 1) bs)))).context
      → part ≡ (pair_decoded cs c (take (left - 2) (halves (drop (first + 1) bs)))).samples
      → (next ≡ whole.context) × (put_mid at (at + (left - 2) - at) after part ≡ whole.samples ++ drop (adpcm_samples n) before)
  unfolding frames_decoded
  framing_all l {part} {next} e v =
      let i : (left - 1) / 16 ≡ 0 = omega arith in
      let one : frames_decoded ((left - 1) / 16) cs c left (drop first bs) ≡ pair_decoded cs c (take (left - 2) (halves (drop (first + 1) bs))) =
      ap (λ (m : ℕ). frames_decoded m cs c left (drop first bs)) i ∙ ap (pair_decoded cs c) (last_frame bs first left l) in
      let end : at + (left - 2) ≡ adpcm_samples n = omega (arith, d.count, samples_last left l) in
      let kept : drop (at + (left - 2)) after ≡ drop (adpcm_samples n) before =
      sym (drop-drop (left - 2) at after) ∙ ap (drop (left - 2)) d.rest ∙ drop-drop (left - 2) at before ∙ ap (λ (m : ℕ). drop m before) end in (
        e ∙ (rw one at d.ends),
        part_put at (left - 2) after part ∙ sym (append_assoc (take at after) part (drop (at + (left - 2)) after))
            ∙ ap (λ (xs : List ℤ). xs ++ drop (at + (left - 2)) after) (ap (λ (xs : List ℤ). take at after ++ xs) v ∙ (rw one at d.done))
            ∙ ap (λ (xs : List ℤ). whole.samples ++ xs) kept,
      )
