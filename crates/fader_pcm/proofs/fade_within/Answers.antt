use Prim.Native.Nat.{◌+◌, ◌*◌, ◌≤◌}
use mathlib.Core.Path.{◌∙◌}
use native.Mathlib.Omega.{arith}
use lib.ListN.{length}
use Rattle.fader_pcm.proofs.PortionLaws.{faded-none, faded_size, faded-more, faded-all}
use borrow.Author.Rules.{rules}
use Rattle.fader_pcm.proofs.fade_within.Goals as goal
use Rattle.fader_pcm.proofs.fade_within.Goals.{Else-n-eq0}

pub loop-samples-init : goal.loop-samples-init
loop-samples-init c = (faded-none _ _, c.room-samples.ensures)

pub slice_bounds-fade_portion-count : goal.slice_bounds-fade_portion-count
slice_bounds-fade_portion-count c = let p = c.loop-samples.invariant.0 in omega (arith, p.inside, faded_size p)

pub slice_bounds-fade_portion-end-in-loop-samples : goal.slice_bounds-fade_portion-end-in-loop-samples
slice_bounds-fade_portion-end-in-loop-samples c = let h = c.loop-samples.invariant.1 in search rules

pub shape_of-bytes-then-n-eq0 : goal.shape_of-bytes-then-n-eq0
shape_of-bytes-then-n-eq0 c =
    let l = c.loop-samples in
    let e = c.fade_portion-n.ensures in
    faded_size (faded-more l.invariant.0 _ e.value e.bytes_after)

pub returns-then-n-eq0 : goal.returns-then-n-eq0
returns-then-n-eq0 c =
    let e = c.fade_portion-n.ensures in
    faded-all c.loop-samples.invariant.0 _ e.value e.bytes_after c.requires c.loop-samples.invariant.1 (omega (arith, c.if-n-eq0.true))

pub loop-samples-preserved : goal.loop-samples-preserved
loop-samples-preserved c =
    let l = c.loop-samples in
    let e = c.fade_portion-n.ensures in
    (faded-more l.invariant.0 _ e.value e.bytes_after, e.samples_len_unchanged ∙ l.invariant.1)

-- the bytes reach behind the portion

inside : (c : Else-n-eq0) → c.loop-samples.at + 2 * c.fade_portion-n.result
    ≤ length c.loop-samples.bytes
inside c =
    let e = c.fade_portion-n.ensures in
    omega (arith, (faded-more c.loop-samples.invariant.0 _ e.value e.bytes_after).inside, faded_size c.loop-samples.invariant.0)

pub overflow_mul-at : goal.overflow_mul-at
overflow_mul-at c = omega (arith, inside c)

pub overflow_add-at : goal.overflow_add-at
overflow_add-at c = omega (arith, inside c)

pub loop-samples-smaller : goal.loop-samples-smaller
loop-samples-smaller c =
    let e = c.fade_portion-n.ensures in
    omega (arith, inside c, c.if-n-eq0.false, faded_size (faded-more c.loop-samples.invariant.0 _ e.value e.bytes_after), faded_size c.loop-samples.invariant.0)
