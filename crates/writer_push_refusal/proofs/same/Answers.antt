use Rattle.std.proofs.Common.{◌∙◌}
use Rattle.writer_push_refusal.proofs.CoefficientLaws.{is_same}
use Rattle.writer_push_refusal.proofs.same.Goals as goal

pub returns : goal.returns
returns c = c.eq.ensures ∙ is_same c.args.a c.args.b
