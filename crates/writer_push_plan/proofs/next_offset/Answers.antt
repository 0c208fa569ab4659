use Rattle.writer_push_plan.proofs.next_offset.Goals as goal

pub overflow_cast-result : goal.overflow_cast-result
overflow_cast-result c = record { fits = c.requires.by_index _ c.in-Some.is }
