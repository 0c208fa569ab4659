use lib.ListN.{length-take}
use native.Mathlib.Omega.{arith}
use Rattle.c_opened.proofs.KeptPuts.{both-channels, one-channel}
use borrow.Author.Rules.{rules}
use Rattle.c_opened.proofs.put.put_file.Goals as goal

pub slice_bounds-put_bytes-end : goal.slice_bounds-put_bytes-end
slice_bounds-put_bytes-end c = rw length-take (omega arith)

pub returns-then-count-eq2 : goal.returns-then-count-eq2
returns-then-count-eq2 c = search (both-channels, rules)

pub slice_bounds-put_bytes-end-2 : goal.slice_bounds-put_bytes-end-2
slice_bounds-put_bytes-end-2 c = rw length-take (omega arith)

pub returns : goal.returns
returns c = search (one-channel, rules)
