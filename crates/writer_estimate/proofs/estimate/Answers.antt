use Rattle.std.proofs.Common.{◌≡◌, ◌≤◌, length, arith, rules}
use Rattle.layout.specs.Refusals.{block_limit}
use Rattle.layout.specs.Answers.{number_of}
use Rattle.writer.specs.Loading.{refused}
use Rattle.writer.specs.Estimate.{estimate_of}
use Rattle.writer_estimate.proofs.EstimateCodeLaws.{summed_on, refused_here, refused_length, all_summed}
use Rattle.writer_estimate.proofs.estimate.Goals as goal

pub returns-in_err-length_due : goal.returns-in_err-length_due
returns-in_err-length_due c =
    let a = c.args in
    let two : (a.channels ≡ 1 → ⊥) → a.channels ≡ 2 = λ n. omega arith in
    let few : length a.lengths.now ≤ block_limit = omega arith in
    let r : refused (number_of c.in_err-length_due.field-0.0) ≡ estimate_of a.channels a.lengths.now a.p =
    refused_length a.channels a.lengths.now a.p two few c.in_err-length_due.field-0.0
    (refused_here a.channels a.lengths.now c.loop-n.sum c.loop-n.n-index c.loop-n.invariant c.loop-n-test.true c.in_err-length_due.field-0.0 c.in_err-length_due.ensures) in
    search (r, rules)

pub overflow_add-sum : goal.overflow_add-sum
overflow_add-sum c =
    let s = summed_on c.args.channels c.args.lengths.now c.loop-n.sum c.loop-n.n-index c.loop-n.invariant c.loop-n-test.true c.block_estimate-sum.result (omega arith)
    c.in_ok-length_due.ensures c.block_estimate-sum.ensures in
    omega arith

pub loop-n-preserved : goal.loop-n-preserved
loop-n-preserved c =
    summed_on c.args.channels c.args.lengths.now c.loop-n.sum c.loop-n.n-index c.loop-n.invariant c.loop-n-test.true c.block_estimate-sum.result (omega arith)
    c.in_ok-length_due.ensures c.block_estimate-sum.ensures

pub returns : goal.returns
returns c =
    let a = c.args in
    let two : (a.channels ≡ 1 → ⊥) → a.channels ≡ 2 = λ n. omega arith in
    let few : length a.lengths.now ≤ block_limit = omega arith in
    all_summed a.channels a.lengths.now a.p two few c.loop-n.sum c.loop-n.n-index c.loop-n.invariant (omega arith)
