use Prim.Native.Nat.{◌+◌}
use mathlib.Core.Path.{sym}
use native.Mathlib.Omega.{arith}
use Rattle.fader_curve.proofs.TextLaws.{Putting, at-is, putting_none, putting_long, putting_room, putting_more, putting_all}
use Rattle.fader_curve.proofs.curve_text.Goals as goal
use Rattle.fader_curve.proofs.curve_text.Goals.{After-put_entry-at}

pub loop-k-init : goal.loop-k-init
loop-k-init c = putting_none _ c.room-text.ensures

pub slice_bounds-put_entry-end : goal.slice_bounds-put_entry-end
slice_bounds-put_entry-end c = sym (putting_long c.loop-k.invariant)

pub put_entry-at-requires : goal.put_entry-at-requires
put_entry-at-requires c =
    let p = c.loop-k.invariant in
    (omega (arith, c.loop-k-test.true), omega (arith, putting_room p (omega (arith, c.loop-k-test.true)), putting_long p))

-- the text so far with the next entry after it
next : (c : After-put_entry-at) → Putting c.room-text.result c.put_entry-at.new.text (c.loop-k.at + c.put_entry-at.result) (c.loop-k.k + 1)
next c = putting_more c.loop-k.invariant (omega (arith, c.loop-k-test.true)) c.put_entry-at.ensures.value c.put_entry-at.ensures.text_after

pub loop-k-preserved : goal.loop-k-preserved
loop-k-preserved c = next (goal.at.loop-k-preserved c).After-put_entry-at

pub overflow_add-at : goal.overflow_add-at
overflow_add-at c = let p = next (goal.at.overflow_add-at c).After-put_entry-at in omega (arith, at-is p, p.few)

pub returns : goal.returns
returns c = putting_all c.loop-k.invariant (omega (arith, c.loop-k-test.false))
