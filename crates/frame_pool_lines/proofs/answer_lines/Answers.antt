use Prim.Native.Nat.{◌<◌}
use native.Mathlib.Omega.{arith}
use lib.ListN.{length}
use Rattle.frame_pool_lines.proofs.AnswerLaws.{little_room, answering_none, answering_long, answering_ended, answering_fits, answering_more, answering_all}
use borrow.Author.Rules.{rules}
use Rattle.frame_pool_lines.proofs.answer_lines.Goals as goal

pub returns-then-text-out : goal.returns-then-text-out
returns-then-text-out c = let z = c.args in
    let all = little_room z.from z.text.now z.out.now (omega (arith, c.if-text-out.true)) in
    record {
      value = all.0;
      out_after = all.1;
    }

pub loop-at-init : goal.loop-at-init
loop-at-init c = answering_none _ _ _ (omega (arith, c.if-text-out.false))

pub shape_of-out-then-progress : goal.shape_of-out-then-progress
shape_of-out-then-progress c = answering_long c.loop-at.invariant

pub returns-then-progress : goal.returns-then-progress
returns-then-progress c = let all = answering_ended c.loop-at.invariant (search rules) c.if-progress.true in
    record {
      value = all.0;
      out_after = all.1;
    }

pub loop-at-preserved : goal.loop-at-preserved
loop-at-preserved c =
    answering_more c.loop-at.invariant (search rules) _ _ _ c.if-progress.false c.whole_line_at.ensures c.said_by-said.ensures
    c.answer_call-done.ensures c.next_line-at.ensures.s_value c.next_line-at.ensures.upper_bound

pub overflow_add-length : goal.overflow_add-length
overflow_add-length c = omega (arith, answering_fits c.loop-at.invariant (search rules) _ c.answer_call-done.ensures)

pub loop-at-smaller : goal.loop-at-smaller
loop-at-smaller c =
    let t : c.loop-at.at < length c.args.text.now = search rules in
    omega (arith, c.next_line-at.ensures.upper_bound.1 t)

pub shape_of-out : goal.shape_of-out
shape_of-out c = answering_long c.loop-at.invariant

pub returns : goal.returns
returns c = let all = answering_all c.loop-at.invariant (search rules) in
    record {
      value = all.0;
      out_after = all.1;
    }
