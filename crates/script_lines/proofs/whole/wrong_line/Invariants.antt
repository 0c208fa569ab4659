use Prim.Native.Nat.{◌-◌}
use lib.ListN.{length}
use Rattle.script_lines.proofs.WholeLaws.{Walking}
use Rattle.script_lines.proofs.whole.wrong_line.Given as goal

abbrev pub invariant-loop-at : goal.invariant-loop-at
invariant-loop-at l =
    Walking l.s l.due l.number l.at

abbrev pub decreases-loop-at : goal.decreases-loop-at
decreases-loop-at l =
    length l.s - l.at
