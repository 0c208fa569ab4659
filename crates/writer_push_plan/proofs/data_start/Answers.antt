use native.Mathlib.Omega.{arith}
use Rattle.writer_push_plan.proofs.PlanLaws.{cues_end, filled-small}
use Rattle.writer_push_plan.proofs.data_start.Goals as goal

pub overflow_add-result : goal.overflow_add-result
overflow_add-result c = omega (arith, filled-small c.args.points _ c.requires c.align.ensures)

pub returns : goal.returns
returns c = rw (cues_end c.args.points _ c.requires c.align.ensures)
