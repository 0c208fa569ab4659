use mathlib.Core.Path.{refl}
use Rattle.cut_answer.proofs.RunLaws.{going_none, going_more, run_other, run_all, to_log}
use borrow.Author.Rules.{rules}
use Rattle.cut_answer.proofs.times.run_end.Goals as goal

pub loop-m-init : goal.loop-m-init
loop-m-init c = going_none (search rules)

pub shape_of-slot-then-not-same_listing : goal.shape_of-slot-then-not-same_listing
shape_of-slot-then-not-same_listing c = let h = c.loop-m.invariant.long in search rules

pub returns-then-not-same_listing : goal.returns-then-not-same_listing
returns-then-not-same_listing c = to_log c.args.j
    c.args.logged.now
    (run_other c.loop-m.invariant c.loop-m-test.true (search rules)
    c.next_moment.ensures c.if-not-same_listing.true c.same_listing.ensures)

pub loop-m-preserved : goal.loop-m-preserved
loop-m-preserved c = going_more c.loop-m.invariant c.loop-m-test.true
    (search rules) c.next_moment.ensures c.if-not-same_listing.false c.same_listing.ensures

pub returns : goal.returns
returns c = to_log c.args.j c.args.logged.now
    (run_all c.loop-m.invariant (search rules) refl)
