use mathlib.Core.Path.{ap, sym, ◌∙◌}
use lib.ListN.{length}
use Rattle.key_listing.specs.MarkingKey.{listing}
use Rattle.cut_answer.specs.Moments.{RunEnds}
use native.Mathlib.Omega.{arith}
use Rattle.cut_write_log.specs.WriteLog.{logged_writes}
use Rattle.cut_answer.proofs.RunLaws.{showing_none, is_run, showing_more}
use Rattle.cut_answer.proofs.times.show_runs.Given.{Over}
use borrow.Author.Rules.{rules}
use Rattle.cut_answer.proofs.times.show_runs.Goals as goal
use Rattle.cut_answer.proofs.times.show_runs.Goals.{After-run_end-next}

pub loop-from-init : goal.loop-from-init
loop-from-init g c = showing_none c.requires.slot_value.0 c.requires.slot_value.1

run : (g : Over) (c : After-run_end-next g)
    → RunEnds c.args.earlier.now (logged_writes c.args.j c.args.logged.now) c.loop-from.from c.args.j.total (listing c.loop-from.first) c.run_end-next.result c.run_end-next.new.slot
run g c = c.run_end-next.ensures _ (c.loop-from.invariant.here c.loop-from-test.true) (c.loop-from.invariant.same c.loop-from-test.true)

pub run_end-next-requires : goal.run_end-next-requires
run_end-next-requires g c = (c.requires.listed.0, c.loop-from-test.true)

pub overflow_sub-next : goal.overflow_sub-next
overflow_sub-next g c = omega (arith, (run g (goal.at.overflow_sub-next g c).After-run_end-next).later)

pub print_run-requires : goal.print_run-requires
print_run-requires g c = is_run _ c.requires.listed.1 (run g (goal.at.print_run-requires g c).After-run_end-next)

pub loop-from-smaller : goal.loop-from-smaller
loop-from-smaller g c = let r = run g (goal.at.loop-from-smaller g c).After-run_end-next in
    let v = c.loop-from.invariant in
    omega (arith, r.later, v.below, c.loop-from-test.true)

pub loop-from-preserved : goal.loop-from-preserved
loop-from-preserved g c = showing_more c.loop-from.invariant (search rules)
    (run g (goal.at.loop-from-preserved g c).After-run_end-next) c.put_bytes.ensures

pub shape_of-slot : goal.shape_of-slot
shape_of-slot g c = c.loop-from.invariant.long ∙ sym (ap length c.requires.slot_value.0)

pub shape_of-first : goal.shape_of-first
shape_of-first g c = c.loop-from.invariant.copy ∙ sym (ap length c.requires.slot_value.1)

pub returns : goal.returns
returns g c = tt
