use borrow.Author.Tests.{eq-eqb, ne_eqb}
use Rattle.writer.specs.Loading.{second}
use Rattle.writer_finish.proofs.second.Goals as goal

pub returns-then-channels-eq2 : goal.returns-then-channels-eq2
unfolding second
returns-then-channels-eq2 c = rw (eq-eqb _ _ c.if-channels-eq2.true) c.filled.ensures

pub returns : goal.returns
unfolding second
returns c = rw (ne_eqb _ _ c.if-channels-eq2.false) c.no_channel.ensures
