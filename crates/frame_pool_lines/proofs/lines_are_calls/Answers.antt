use Rattle.frame_pool_lines.proofs.AnswerLaws.{lines_calls}
use Rattle.frame_pool_lines.proofs.lines_are_calls.Goals as goal

pub returns : goal.returns
returns c = lines_calls
