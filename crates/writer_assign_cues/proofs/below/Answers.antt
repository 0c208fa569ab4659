use Rattle.std.proofs.Common.{◌≡◌, sym, ◌∙◌, arith, rules}
use Rattle.writer_assign_cues.proofs.TakeLaws.{below-start, below_again, below-stop, below_end}
use Rattle.writer_assign_cues.proofs.below.Goals as goal

pub loop-k-init : goal.loop-k-init
loop-k-init c = search (below-start, rules)

pub returns-then-cues-k : goal.returns-then-cues-k
returns-then-cues-k c = (search (below-stop, rules), omega arith, omega arith)

pub loop-k-preserved : goal.loop-k-preserved
loop-k-preserved c =
    below_again _ _ _ _ _ (search rules) (omega arith) c.loop-k.invariant _ c.loop-k-test.true c.if-cues-k.false

pub returns : goal.returns
returns c =
    let e : c.loop-k.k ≡ c.args.count = omega arith in
    (sym e ∙ below_end _ _ _ _ _ (search rules) (omega arith) c.loop-k.invariant c.loop-k-test.false, omega arith, omega arith)
