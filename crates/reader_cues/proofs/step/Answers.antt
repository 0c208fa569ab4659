use Rattle.std.proofs.Common.{ℕ, ◌+◌, ◌%◌, ◌^◌, refl, sym, ap, ◌∙◌, arith}
use Rattle.layout.proofs.FieldLaws.{passed_on}
use Rattle.reader_cues.proofs.NextCueLaws.{stepping_none, cues-inside, step_end, step_loop, step_refused, step-here, step-point, not_out, step-next}
use Rattle.reader_cues.proofs.step.Goals as goal

pub loop-block-init : goal.loop-block-init
loop-block-init c = record { stepping = stepping_none _ _ _; within = omega arith }

pub returns-then-loop_here : goal.returns-then-loop_here
returns-then-loop_here c =
    step_loop c.loop-block.invariant.stepping c.min-count.ensures c.loop-block-test.true (sym c.loop_here.ensures ∙ c.if-loop_here.true)

pub returns-in_err-header : goal.returns-in_err-header
returns-in_err-header c =
    rw (passed_on _ _ c.from_residual.ensures.1)
    (step_refused c.loop-block.invariant.stepping c.min-count.ensures c.loop-block-test.true (sym c.loop_here.ensures ∙ c.if-loop_here.false) c.in_err-header.ensures)

pub overflow_mul-at : goal.overflow_mul-at
overflow_mul-at c = omega (arith, cues-inside _ _ c.loop-block.place _ c.in_ok-header.ensures c.if-place-header.true)

pub overflow_add-at-then-place-header : goal.overflow_add-at-then-place-header
overflow_add-at-then-place-header c = omega (arith, cues-inside _ _ c.loop-block.place _ c.in_ok-header.ensures c.if-place-header.true)

pub returns-in_err-point : goal.returns-in_err-point
returns-in_err-point c =
    let h = step-here c.loop-block.invariant.stepping c.min-count.ensures c.loop-block-test.true (sym c.loop_here.ensures ∙ c.if-loop_here.false) c.in_ok-header.ensures in
    absurd (not_out h c.if-place-header.true c.in_err-point.ensures refl)

pub returns-then-place-header : goal.returns-then-place-header
returns-then-place-header c =
    let h = step-here c.loop-block.invariant.stepping c.min-count.ensures c.loop-block-test.true (sym c.loop_here.ensures ∙ c.if-loop_here.false) c.in_ok-header.ensures in
    step-point h c.if-place-header.true c.in_ok-point.ensures

pub loop-block-preserved : goal.loop-block-preserved
loop-block-preserved c =
    let h = step-here c.loop-block.invariant.stepping c.min-count.ensures c.loop-block-test.true (sym c.loop_here.ensures ∙ c.if-loop_here.false) c.in_ok-header.ensures in
    record {
      stepping = step-next h c.if-place-header.false (ap (λ (m : ℕ). (c.loop-block.base + m) % 2 ^ 64) c.num_samples-base.ensures);
      within = omega arith;
    }

pub returns : goal.returns
returns c = step_end c.loop-block.invariant.stepping c.min-count.ensures c.loop-block-test.false (omega arith)
