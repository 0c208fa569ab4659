use Rattle.std.proofs.Common.{◌∙◌}
use Rattle.writer_cue.proofs.CueTableLaws.{is_held}
use Rattle.writer_cue.proofs.holds.Goals as goal

pub returns : goal.returns
returns c = c.contains.ensures.value ∙ is_held c.args.c c.args.held.now
