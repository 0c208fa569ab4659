use Rattle.frame_pool_lines.proofs.AnswerLaws.{portions}
use Rattle.frame_pool_lines.proofs.portions_answered.Goals as goal

pub returns : goal.returns
returns c = portions
