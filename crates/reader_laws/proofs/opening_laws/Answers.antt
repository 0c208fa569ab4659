use Rattle.reader_laws.proofs.AcceptedLaws.{accepted}
use Rattle.reader_laws.proofs.opening_laws.Goals as goal

pub returns : goal.returns
returns c = accepted
