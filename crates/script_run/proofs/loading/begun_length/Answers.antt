use borrow.Author.Tests.{lt-ltb, le-ltb}
use Rattle.layout.specs.Refusals.{key_limit}
use Rattle.script_run.proofs.loading.begun_length.Goals as goal

pub returns-then-n-gt-KEY_LIMIT : goal.returns-then-n-gt-KEY_LIMIT
returns-then-n-gt-KEY_LIMIT c = rw (lt-ltb key_limit _ c.if-n-gt-KEY_LIMIT.true)

pub returns : goal.returns
returns c = rw (le-ltb key_limit _ c.if-n-gt-KEY_LIMIT.false)
