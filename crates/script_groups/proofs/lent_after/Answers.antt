use Rattle.script_groups.proofs.OrderLaws.{lent_set, lent_kept}
use Rattle.script_groups.proofs.lent_after.Goals as goal

pub returns-in-Lent : goal.returns-in-Lent
returns-in-Lent c = lent_set _ _ c.in-Lent.is c.lent_line.ensures

pub returns : goal.returns
returns c = lent_kept c.args.kind _ c.in_default.not-Lent
