use Rattle.std.proofs.Common.{◌≡◌, Err, rules}
use Rattle.writer.specs.Loading.{early_due}
use Rattle.writer_push_refusal.proofs.DecideLaws.{refused_by, passed_by}
use Rattle.writer_push_refusal.proofs.GroupLaws.{blocks_numbered, rate_numbered, length_numbered, data_numbered}
use Rattle.writer_push_refusal.proofs.early_due.Goals as goal

pub returns-in_err-blocks_due : goal.returns-in_err-blocks_due
unfolding early_due
returns-in_err-blocks_due c =
    let a = c.args in
    let e : c.from_residual.result ≡ Err c.in_err-blocks_due.field-0.0 = search rules in
    rw e
    (refused_by c.in_err-blocks_due.field-0.0 _ _ c.in_err-blocks_due.ensures)

pub returns-in_err-rate_due : goal.returns-in_err-rate_due
unfolding early_due
returns-in_err-rate_due c =
    let a = c.args in
    let e : c.from_residual-in_err-rate_due.result ≡ Err c.in_err-rate_due.field-0.0 = search rules in
    rw e
    (passed_by _ _ (blocks_numbered a.blocks) c.in_ok-blocks_due.ensures
    (refused_by c.in_err-rate_due.field-0.0 _ _ c.in_err-rate_due.ensures))

pub returns-in_err-length_due : goal.returns-in_err-length_due
unfolding early_due
returns-in_err-length_due c =
    let a = c.args in
    let e : c.from_residual-in_err-length_due.result ≡ Err c.in_err-length_due.field-0.0 = search rules in
    rw e
    (passed_by _ _ (blocks_numbered a.blocks) c.in_ok-blocks_due.ensures
    (passed_by _ _ (rate_numbered a.blocks a.first.rate a.channels a.left.rate a.right.rate) c.in_ok-rate_due.ensures
    (refused_by c.in_err-length_due.field-0.0 _ _ c.in_err-length_due.ensures)))

pub returns-in_err-data_due : goal.returns-in_err-data_due
unfolding early_due
returns-in_err-data_due c =
    let a = c.args in
    let e : c.from_residual-in_err-data_due.result ≡ Err c.in_err-data_due.field-0.0 = search rules in
    rw e
    (passed_by _ _ (blocks_numbered a.blocks) c.in_ok-blocks_due.ensures
    (passed_by _ _ (rate_numbered a.blocks a.first.rate a.channels a.left.rate a.right.rate) c.in_ok-rate_due.ensures
    (passed_by _ _ (length_numbered a.channels a.left.length a.right.length) c.in_ok-length_due.ensures
    (refused_by c.in_err-data_due.field-0.0 _ _ c.in_err-data_due.ensures))))

pub returns : goal.returns
unfolding early_due
returns c =
    let a = c.args in
    passed_by _ _ (blocks_numbered a.blocks) c.in_ok-blocks_due.ensures
    (passed_by _ _ (rate_numbered a.blocks a.first.rate a.channels a.left.rate a.right.rate) c.in_ok-rate_due.ensures
    (passed_by _ _ (length_numbered a.channels a.left.length a.right.length) c.in_ok-length_due.ensures
    (passed_by _ _ (data_numbered a.channels a.left.length a.left_bytes a.right.length a.right_bytes) c.in_ok-data_due.ensures
    c.coefficients_due.ensures)))
