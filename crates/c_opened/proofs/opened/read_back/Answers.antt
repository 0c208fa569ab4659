use Rattle.c_opened.proofs.ReadBackLaws.{read_back}
use Rattle.c_opened.proofs.opened.read_back.Goals as goal

pub returns : goal.returns
returns c = read_back
