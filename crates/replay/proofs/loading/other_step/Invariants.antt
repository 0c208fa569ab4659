use Rattle.writer.specs.Calls.{Good}
use Rattle.replay.proofs.loading.other_step.Given as goal

abbrev pub invariant-loop-turn : goal.invariant-loop-turn
invariant-loop-turn l = (goal.iterator-loop-turn).can_next l.rest × (goal.iterator-loop-turn).is_finite l.rest × Good l.w
