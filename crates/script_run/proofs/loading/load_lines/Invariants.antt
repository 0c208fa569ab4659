use Prim.Native.Nat.{◌-◌}
use lib.ListN.{length}
use Rattle.script_run.proofs.LoadLaws.{Walked}
use Rattle.script_run.proofs.loading.load_lines.Given as goal

abbrev pub invariant-loop-at : goal.invariant-loop-at
invariant-loop-at g l = Walked l.s l.from l.initial.st l.initial.logged l.at l.st l.logged

abbrev pub decreases-loop-at : goal.decreases-loop-at
decreases-loop-at g l = length l.s - l.at
