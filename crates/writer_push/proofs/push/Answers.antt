use Rattle.std.proofs.Common.{◌≡◌, ◌<◌, Option, Some, None, Result, Ok, Err, refl, ap, sym, ◌∙◌, arith, rules}
use borrow.Author.Tests.{eqb-false}
use Rattle.layout.specs.Answers.{number_of}
use Rattle.layout.specs.declared.refusal.Refusal.{Refusal}
use Rattle.writer.specs.Push.{loops_here, loop_from}
use Rattle.writer.proofs.DueLaws.{not_zero}
use Rattle.writer.proofs.GoodLaws.{block_good, parts_good}
use Rattle.writer_push_plan.specs.declared.Plan.{Plan}
use Rattle.writer_push_plan.specs.PushPlan.{plan_says}
use Rattle.writer_push.specs.PushArguments.{push_said}
use Rattle.writer_push.proofs.PushLaws.{push_refused, push_nothing, push_accepted, Worked, due-is, some_block, no_block, sized, room, after_is, bytes_are}
use Rattle.writer_push.proofs.push.Goals as goal
use Rattle.writer_push.proofs.push.Goals.{After-plan_push-answer}

-- ---- What is known at the places of the code

-- what is worked out, by the plan that is answered
worked : (c : After-plan_push-answer) (v : Result (Option Plan) Refusal) → c.plan_push-answer.result ≡ v
    → Worked c.args.w c.args.p.channels c.args.p.left c.args.p.right c.args.p.left_data.now c.args.p.right_data.now c.args.p.last c.args.lent.now c.block_end-end.result
    c.take-taken.result c.any_loop-held.result (plan_says c.args.w.stream v)
worked c v e =
    let w = c.args.w in
    record {
      good = c.requires;
      ends = c.block_end-end.ensures;
      takes = c.take-taken.ensures;
      loops =
          ap
          (λ b. loop_from w.stream.loopat w.stream.offset (loops_here w.setup.mode b c.take-taken.result.asked c.block_end-end.result c.args.p.last))
          c.any_loop-held.ensures;
      plans = ap (plan_says w.stream) (sym e) ∙ c.plan_push-answer.ensures.planned;
    }

-- ---- The needs

pub plan_push-answer-requires : goal.plan_push-answer-requires
plan_push-answer-requires c = parts_good c.args.w c.requires

pub returns-in-Err : goal.returns-in-Err
returns-in-Err c =
    let x = c.in-Err.refusal in
    let k = worked (goal.at.returns-in-Err c).After-plan_push-answer (Err x) c.in-Err.is in
    let q = push_refused c.args.w (push_said c.args.p) c.args.lent.now (number_of x) (due-is k) (eqb-false _ 0 (not_zero x)) _ refl in
    record {
      value = q.0;
      lent_after = q.1;
      good = c.requires;
    }

-- an empty push
pub returns-in-Ok-None : goal.returns-in-Ok-None
returns-in-Ok-None c =
    let e : c.plan_push-answer.result ≡ Ok None = search rules in
    let k = worked (goal.at.returns-in-Ok-None c).After-plan_push-answer (Ok None) e in
    let q = push_nothing c.args.w (push_said c.args.p) c.args.lent.now 0 (due-is k) refl (no_block k refl refl) in
    record {
      value = q.0;
      lent_after = q.1;
      good = c.requires;
    }

pub returns : goal.returns
returns c =
    let p = push_said c.args.p in
    let plan = c.in-Ok-Some.plan in
    let e : c.plan_push-answer.result ≡ Ok (Some plan) = search rules in
    let k = worked (goal.at.returns c).After-plan_push-answer (Ok (Some plan)) e in
    let some : 0 < plan.size = rw e at c.plan_push-answer.ensures.some_bytes in
    let n = some_block k (λ z. omega arith) in
    let a = after_is k refl n in
    let b = bytes_are k refl n _ _ _ c.put_header.ensures c.put_taken.ensures c.put_data.ensures in
    let q = push_accepted c.args.w p c.args.lent.now 0 (due-is k) refl n _ _ _ a (sized k refl n) (room k refl n).1 b in
    record {
      value = q.0;
      lent_after = q.1;
      good = rw a (block_good c.args.w p _ c.requires n (sym (due-is k)));
    }
