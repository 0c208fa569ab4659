use Prim.Native.Nat.{ℕ, ◌+◌, ◌-◌, ◌*◌, ◌/◌, ◌≤◌, ◌<◌}
use mathlib.Core.Path.{◌≡◌, ap, ◌∙◌}
use native.Mathlib.Omega.{arith}
use lib.ListN.{length}
use Rattle.reader_cues.proofs.NextCueLaws.{step_of_parts}
use Rattle.reader.specs.CuesReadBack.{cursor}
use Rattle.c_cues.specs.KeptCues.{filled_of}
use Rattle.c_cues.proofs.FillLaws.{room-none, filling-none, all_more, all-last, all_end}
use Rattle.c_cues.proofs.fill_cues.Goals as goal

pub loop-cues-init : goal.loop-cues-init
loop-cues-init c = (room-none, λ r p. filling-none _ r _ _)

pub returns-in-Err : goal.returns-in-Err
returns-in-Err c =
    let i = c.loop-cues.invariant in
    let h : 16 ≤ length c.loop-cues.out - 16 * c.loop-cues.cues = omega (arith, c.loop-cues-test.true, i.0.same) in
    let w = all-last _ _ _ _ _ _ _ _ _ _ _ i.0 i.1 h _
    (step_of_parts _ _ _ _ _ _ c.cue_from-call.ensures) c.put_answer.ensures.out_after _ c.in-Err.ensures.value c.filled.ensures in
    record {
      value = λ r p. (w r p).0;
      out_after = λ r p. (w r p).1;
    }

pub loop-cues-preserved : goal.loop-cues-preserved
loop-cues-preserved c =
    let i = c.loop-cues.invariant in
    let h : 16 ≤ length c.loop-cues.out - 16 * c.loop-cues.cues = omega (arith, c.loop-cues-test.true, i.0.same) in
    let z : 16 * c.loop-cues.cues + 16 ≡ 16 * (c.loop-cues.cues + 1) = omega arith in
    rw (← z) (all_more _ _ _ _ _ _ _ _ _ _ _ i.0 i.1 h _
    (step_of_parts _ _ _ _ _ _ c.cue_from-call.ensures) c.put_answer.ensures.out_after c.in_default.ensures.value c.put_answer.auto.out)

pub returns : goal.returns
returns c =
    let i = c.loop-cues.invariant in
    let h : length c.loop-cues.out - 16 * c.loop-cues.cues < 16 = omega (arith, c.loop-cues-test.false, i.0.same) in
    let all : length c.args.out.now / 16 ≡ c.loop-cues.cues = omega (arith, c.loop-cues-test.false, c.loop-cues.auto.cues-end) in
    let w = all_end _ _ _ _ _ _ _ _ _ _ _ i.0 i.1 h (c.filled-2.ensures ∙ ap (λ (n : ℕ). filled_of 0 n (cursor c.loop-cues.block c.loop-cues.place c.loop-cues.base c.loop-cues.due)) all) in
    record {
      value = λ r p. (w r p).0;
      out_after = λ r p. (w r p).1;
    }
