use Rattle.c_record.proofs.ReadingLaws.{cues-start, cues_again, cues_end}
use Rattle.c_record.proofs.cues_in.Goals as goal

pub loop-i-init : goal.loop-i-init
loop-i-init c = cues-start _ _ _ c.requires.1

pub loop-i-preserved : goal.loop-i-preserved
loop-i-preserved c = cues_again _ _ _ c.requires.1 _ _ _ c.loop-i.invariant c.loop-i-test.true c.cue_in.ensures

pub returns : goal.returns
returns c = cues_end _ _ _ c.requires.1 _ _ c.loop-i.invariant c.loop-i-test.false
