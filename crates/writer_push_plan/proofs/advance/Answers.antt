use Rattle.writer.specs.Push.{advanced}
use Rattle.writer_push_plan.proofs.advance.Goals as goal

pub returns : goal.returns
unfolding advanced
returns c = rw (c.first_side-l.ensures, c.first_side-r.ensures)
