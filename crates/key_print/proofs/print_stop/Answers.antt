use Rattle.key_print.proofs.StopLaws.{stop-long, stop-put}
use borrow.Author.Rules.{rules}
use Rattle.key_print.proofs.print_stop.Goals as goal

pub write_stop-requires : goal.write_stop-requires
write_stop-requires g c = stop-put c.args.number c.put_stop-n.ensures (search rules)

pub returns : goal.returns
returns g c = stop-long c.args.number c.put_stop-n.ensures (search rules)
