use Rattle.std.proofs.Common.{◌≤◌, max}
use Rattle.reader_cues.specs.CueAnswers.{record_with}
use Rattle.reader_cues.proofs.NextCueLaws.{Stepping}
use Rattle.reader_cues.proofs.step.Given as goal

abbrev pub invariant-loop-block : goal.invariant-loop-block
invariant-loop-block l = record {
  stepping : Stepping l.s (record_with l.offsets l.blocks l.start l.format) l.c l.block l.place l.base;
  within : l.block ≤ max l.c.block l.count;
}
