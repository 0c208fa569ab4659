use native.Mathlib.Omega.{arith}
use Rattle.writer_push_plan.proofs.PlanLaws.{end_fits, end_over}
use Rattle.writer_push_plan.proofs.block_end.Goals as goal

pub returns-then-samples-base : goal.returns-then-samples-base
returns-then-samples-base c =
    end_fits c.args.base c.args.size _ c.adpcm_samples-samples.ensures c.if-samples-base.true (omega (arith, c.ranges.base.fits))

pub returns-else-samples-base : goal.returns-else-samples-base
returns-else-samples-base c =
    end_over c.args.base c.args.size _ c.adpcm_samples-samples.ensures c.if-samples-base.false (omega (arith, c.ranges.base.fits))
