use native.Mathlib.Omega.{arith}
use Rattle.script_run.proofs.LoadLaws.{walked_none, walked_more, walked_all}
use borrow.Author.Rules.{rules}
use Rattle.script_run.proofs.loading.load_lines.Goals as goal

pub loop-at-init : goal.loop-at-init
loop-at-init g c = walked_none (search rules)

pub load_line-st-requires : goal.load_line-st-requires
load_line-st-requires g c = record {
  good = (c.loop-at.invariant.good, c.requires.1);
  at_in_bounds = (c.loop-at-test.true, c.next_line-next.ensures.s_value);
}

pub loop-at-smaller : goal.loop-at-smaller
loop-at-smaller g c = omega (arith, c.next_line-next.ensures.upper_bound.1 c.loop-at-test.true)

pub loop-at-preserved : goal.loop-at-preserved
loop-at-preserved g c = walked_more c.loop-at.invariant (search rules) c.next_line-next.ensures.s_value
    c.load_line-st.ensures

pub returns : goal.returns
returns g c = walked_all c.loop-at.invariant (search rules)
