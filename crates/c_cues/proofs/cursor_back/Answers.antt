use Rattle.c_cues.proofs.CursorLaws.{cursor-back, zeros_first}
use Rattle.c_cues.proofs.cursor_back.Goals as goal

pub returns : goal.returns
returns c = record { zeros = zeros_first; back = λ r bs c f h. cursor-back bs c r f h }
