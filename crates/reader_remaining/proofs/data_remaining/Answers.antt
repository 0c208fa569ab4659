use native.Mathlib.Omega.{arith}
use Rattle.layout.proofs.FieldLaws.{passed_on}
use Rattle.reader.specs.OpeningAndReading.{data_remaining}
use Rattle.reader_remaining.proofs.RemainingLaws.{sliced, summed, sum_refused, sum_more}
use Rattle.reader_remaining.proofs.data_remaining.Goals as goal

pub returns-in_err-header : goal.returns-in_err-header
unfolding data_remaining
returns-in_err-header c =
    rw (passed_on _ _ c.from_residual.ensures.1, sliced c.args.r c.args.position c.min.ensures)
    (sum_refused c.loop-offset.invariant c.loop-offset-test.true c.in_err-header.ensures)

pub loop-offset-preserved : goal.loop-offset-preserved
loop-offset-preserved c = rw c.from.ensures (sum_more c.loop-offset.invariant c.loop-offset-test.true c.in_ok-header.ensures (omega arith))

pub returns : goal.returns
unfolding data_remaining
returns c = rw (sliced c.args.r c.args.position c.min.ensures) (summed c.loop-offset.invariant c.loop-offset-test.false)
