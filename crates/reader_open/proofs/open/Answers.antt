use mathlib.Core.Path.{sym, ◌∙◌}
use borrow.Author.Tests.{lt-ltb}
use Rattle.layout.proofs.FieldLaws.{passed_on}
use Rattle.reader.specs.OpeningAndReading.{opening}
use Rattle.reader.proofs.OpenedLaws.{opened_readable}
use Rattle.reader_open.proofs.OpenLaws.{magic_out, rate_out, count_out, no_such_count, left_out, right_out, walk_out, record_is}
use Rattle.reader_open.proofs.open.Goals as goal

pub returns-then-s-gt-SLOT_LIMIT-clause-value : goal.returns-then-s-gt-SLOT_LIMIT-clause-value
unfolding opening
returns-then-s-gt-SLOT_LIMIT-clause-value c = rw (lt-ltb _ _ c.if-s-gt-SLOT_LIMIT.true)

pub returns-in_err-read_magic-clause-value : goal.returns-in_err-read_magic-clause-value
returns-in_err-read_magic-clause-value c =
    rw (passed_on _ _ c.from_residual.ensures.1)
    (magic_out c.args.s.now c.if-s-gt-SLOT_LIMIT.false c.in_err-read_magic.ensures)

pub returns-in_err-rate-clause-value : goal.returns-in_err-rate-clause-value
returns-in_err-rate-clause-value c =
    rw (passed_on _ _ c.from_residual-in_err-rate.ensures.1)
    (rate_out c.args.s.now c.if-s-gt-SLOT_LIMIT.false c.in_ok-read_magic.ensures c.in_err-rate.ensures)

pub returns-in_err-count-clause-value : goal.returns-in_err-count-clause-value
returns-in_err-count-clause-value c =
    rw (passed_on _ _ c.from_residual-in_err-count.ensures.1)
    (count_out c.args.s.now c.if-s-gt-SLOT_LIMIT.false c.in_ok-read_magic.ensures c.in_ok-rate.ensures c.in_err-count.ensures)

pub returns-then-wrong_count-clause-value : goal.returns-then-wrong_count-clause-value
returns-then-wrong_count-clause-value c =
    no_such_count c.args.s.now c.if-s-gt-SLOT_LIMIT.false c.in_ok-read_magic.ensures c.in_ok-rate.ensures c.in_ok-count.ensures (sym c.wrong_count.ensures ∙ c.if-wrong_count.true)

pub returns-in_err-left-clause-value : goal.returns-in_err-left-clause-value
returns-in_err-left-clause-value c =
    rw (passed_on _ _ c.from_residual-in_err-left.ensures.1)
    (left_out c.args.s.now c.if-s-gt-SLOT_LIMIT.false c.in_ok-read_magic.ensures c.in_ok-rate.ensures c.in_ok-count.ensures (sym c.wrong_count.ensures ∙ c.if-wrong_count.false) c.in_err-left.ensures)

pub returns-in_err-right-clause-value : goal.returns-in_err-right-clause-value
returns-in_err-right-clause-value c =
    rw (passed_on _ _ c.from_residual-in_err-right.ensures.1)
    (right_out c.args.s.now c.if-s-gt-SLOT_LIMIT.false c.in_ok-read_magic.ensures c.in_ok-rate.ensures c.in_ok-count.ensures (sym c.wrong_count.ensures ∙ c.if-wrong_count.false) c.in_ok-left.ensures c.in_err-right.ensures)

pub returns-in_err-walk-clause-value : goal.returns-in_err-walk-clause-value
returns-in_err-walk-clause-value c =
    rw (passed_on _ _ c.from_residual-in_err-walk.ensures.1)
    (walk_out c.args.s.now c.if-s-gt-SLOT_LIMIT.false c.in_ok-read_magic.ensures c.in_ok-rate.ensures c.in_ok-count.ensures (sym c.wrong_count.ensures ∙ c.if-wrong_count.false) c.in_ok-left.ensures c.in_ok-right.ensures c.in_err-walk.ensures.value)

pub returns-clause-value : goal.returns-clause-value
returns-clause-value c =
    record_is c.args.s.now c.if-s-gt-SLOT_LIMIT.false c.in_ok-read_magic.ensures c.in_ok-rate.ensures c.in_ok-count.ensures (sym c.wrong_count.ensures ∙ c.if-wrong_count.false) c.in_ok-left.ensures c.in_ok-right.ensures
    c.in_ok-walk.ensures.value c.in_ok-walk.ensures.offsets_after c.in_use.ensures

pub returns-clause-readable : goal.returns-clause-readable
returns-clause-readable c = opened_readable _ _ (sym (returns-clause-value c))
