use Prim.Native.Nat.{◌+◌, ◌-◌}
use Rattle.cut_write_log.specs.WriteLog.{logged_writes}
use Rattle.cut_answer.proofs.RunLaws.{Showing}
use Rattle.cut_answer.proofs.times.show_runs.Given as goal

abbrev pub invariant-loop-from : goal.invariant-loop-from
invariant-loop-from g l = Showing l.earlier (logged_writes l.j l.logged) l.total l.slot l.first l.from

abbrev pub decreases-loop-from : goal.decreases-loop-from
decreases-loop-from g l = l.total + 1 - l.from
