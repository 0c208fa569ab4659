use native.Mathlib.Omega.{arith}
use lib.ListN.{length-take}
use Rattle.writer_finish.proofs.FinishLaws.{handed_out}
use Rattle.writer_finish.proofs.hand_out.Goals as goal

pub slice_bounds-put_bytes-end : goal.slice_bounds-put_bytes-end
slice_bounds-put_bytes-end c = rw length-take (omega arith)

pub returns : goal.returns
returns c =
    handed_out c.args.header.now c.requires.0 c.args.lent.now _ _ _ c.requires.1 c.put_bytes.ensures c.put_bytes-2.ensures c.put_bytes-3.ensures
