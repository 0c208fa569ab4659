use Rattle.std.proofs.Common.{cond}
use Rattle.decode.proofs.+print_slot.Given as goal

abbrev pub decreases-print_slot : goal.decreases-print_slot
decreases-print_slot g l = cond l.long 0 1
