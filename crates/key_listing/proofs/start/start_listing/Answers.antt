use Rattle.std.proofs.Common.{sym}
use Rattle.key_listing.proofs.StartLaws.{start-long, start_refused, start-opened}
use Rattle.key_listing.proofs.start.start_listing.Goals as goal

pub returns-then-s-gt-KEY_LIMIT-clause-stage_value : goal.returns-then-s-gt-KEY_LIMIT-clause-stage_value
returns-then-s-gt-KEY_LIMIT-clause-stage_value c = rw c.into.ensures (start-long c.args.s.now _ c.if-s-gt-KEY_LIMIT.true)

pub returns-in-Ok-clause-stage_value : goal.returns-in-Ok-clause-stage_value
returns-in-Ok-clause-stage_value c = start-opened c.args.s.now _ c.if-s-gt-KEY_LIMIT.false (sym c.in-Ok.ensures.value)

pub returns-in-Err-clause-stage_value : goal.returns-in-Err-clause-stage_value
returns-in-Err-clause-stage_value c =
    rw c.into-in-Err.ensures (start_refused c.args.s.now _ c.if-s-gt-KEY_LIMIT.false _ (sym c.in-Err.ensures.value))
