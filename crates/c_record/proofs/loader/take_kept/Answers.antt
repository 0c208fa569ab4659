use Rattle.writer_assign_cues.proofs.TakeLaws.{none_taken}
use Rattle.c_record.proofs.loader.take_kept.Goals as goal

pub returns-then-from-count : goal.returns-then-from-count
returns-then-from-count c = none_taken _ _ _ _ _ c.requires.0 c.if-from-count.true
