use Rattle.writer_assign_cues.proofs.PointLaws.{no_points}
use Rattle.c_record.proofs.loader.put_taken_kept.Goals as goal

pub returns-then-taken-eq0 : goal.returns-then-taken-eq0
returns-then-taken-eq0 c = no_points _ _ _ _ _ _ c.requires.taking.counted c.if-taken-eq0.true
