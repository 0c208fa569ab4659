use Rattle.std.proofs.Common.{cond}
use Rattle.decode_print.proofs.+print_rest.Given as goal

abbrev pub decreases-print_rest : goal.decreases-print_rest
decreases-print_rest g l = cond l.long 0 1
