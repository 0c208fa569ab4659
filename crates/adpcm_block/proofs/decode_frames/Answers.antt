use Prim.Native.Nat.{ℕ, ◌+◌, ◌-◌, ◌*◌, ◌≤◌, ◌<◌, min}
use mathlib.Core.Path.{◌≡◌, ap, ◌∙◌}
use mathlib.Core.List.{List}
use native.Mathlib.Omega.{arith}
use lib.ListN.{length, take, drop, length-drop}
use lib.Seq.{take_all}
use Rattle.std.proofs.lemmas.List.{drop_min}
use Rattle.adpcm_block.proofs.FrameLaws.{part_length, framing_first, more-inside, more_room, last-inside, last-room, framing_next, framing_all}
use Rattle.adpcm_block.proofs.decode_frames.Goals as goal
use Rattle.adpcm_block.proofs.decode_frames.Goals.{After-loop-left, In-loop-left}

pub loop-left-init : goal.loop-left-init
loop-left-init c = framing_first _ _ _ _ _

-- the data and the places of a whole frame

inside : (c : In-loop-left) → (14 ≤ 2 * (length c.args.block.now - (c.loop-left.first + 1)))
    × (c.loop-left.first + 8 < length c.args.block.now)
inside c = more-inside c.loop-left.invariant c.loop-left-test.true c.requires.0

room : (c : In-loop-left) → c.loop-left.at + 14 ≤ length c.loop-left.samples
room c = more_room c.loop-left.invariant c.loop-left-test.true c.requires.1

pub slice_bounds-data-count : goal.slice_bounds-data-count
slice_bounds-data-count c = let h = inside (goal.at.slice_bounds-data-count c).In-loop-left in omega (arith, h.1)

pub slice_bounds-data-start : goal.slice_bounds-data-start
slice_bounds-data-start c = let h = inside (goal.at.slice_bounds-data-start c).In-loop-left in omega (arith, h.1)

pub slice_bounds-places-end : goal.slice_bounds-places-end
slice_bounds-places-end c = room (goal.at.slice_bounds-places-end c).In-loop-left

pub bounds-block-first : goal.bounds-block-first
bounds-block-first c = (inside (goal.at.bounds-block-first c).In-loop-left).1

-- a part of the data or the places

rest_whole : (a : ℕ) (xs : List ℕ) → take (length xs - a) (drop a xs) ≡ drop a xs
rest_whole a xs = take_all _ _ (omega (arith, length-drop a xs))

pub decode_frame-context-requires : goal.decode_frame-context-requires
decode_frame-context-requires c =
    let h = inside (goal.at.decode_frame-context-requires c).In-loop-left in
    let r = room (goal.at.decode_frame-context-requires c).In-loop-left in
    rw (part_length _ 14 _ r, rest_whole _ _, length-drop) h.0

pub loop-left-preserved : goal.loop-left-preserved
loop-left-preserved c =
    let r = room (goal.at.loop-left-preserved c).In-loop-left in
    let e = rw (part_length _ 14 _ r, rest_whole _ _) at c.decode_frame-context.ensures in
    framing_next c.loop-left.invariant c.loop-left-test.true c.requires.0 r e.value e.samples_after c.from.ensures

-- and of the last

rest : (c : After-loop-left) → c.loop-left.left ≤ 16
rest c = omega (arith, c.loop-left-test.false)

last : (c : After-loop-left) → c.loop-left.at + (c.loop-left.left - 2) ≤ length c.loop-left.samples
last c = last-room c.loop-left.invariant (rest c) c.requires.1

part_last : (first m : ℕ) (xs : List ℕ) → m ≡ min (first + 1) (length xs) → take (length xs - m) (drop m xs) ≡ drop (first + 1) xs
part_last first m xs e = rest_whole m xs ∙ ap (λ (k : ℕ). drop k xs) e ∙ drop_min (first + 1) xs

pub slice_bounds-places-end-2 : goal.slice_bounds-places-end-2
slice_bounds-places-end-2 c = let h = last (goal.at.slice_bounds-places-end-2 c).After-loop-left in rw c.halves_in.ensures h

pub decode_frame-requires : goal.decode_frame-requires
decode_frame-requires c =
    let a = (goal.at.decode_frame-requires c).After-loop-left in
    rw (c.halves_in.ensures, part_length _ _ _ (last a), part_last _ _ _ c.min.ensures, length-drop) (last-inside c.loop-left.invariant (rest a) c.requires.0)

pub returns : goal.returns
returns c =
    let a = (goal.at.returns c).After-loop-left in
    let e = rw (c.halves_in.ensures, part_length _ _ _ (last a), part_last _ _ _ c.min.ensures) at c.decode_frame.ensures in
    let all = framing_all c.loop-left.invariant (rest a) e.value e.samples_after in
    record { value = all.0; samples_after = rw c.halves_in.ensures all.1 }
