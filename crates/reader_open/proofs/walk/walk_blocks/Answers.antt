use Rattle.std.proofs.Common.{sym}
use Rattle.reader_open.proofs.WalkLaws.{cleared}
use Rattle.reader_open.proofs.walk.walk_blocks.Goals as goal

pub returns-then-is_err-clause-offsets_after : goal.returns-then-is_err-clause-offsets_after
returns-then-is_err-clause-offsets_after c =
    cleared _ _ c.walk_along-walk.result (sym c.if-is_err.ensures.value) _ c.walk_along-walk.ensures.value c.walk_along-walk.auto.offsets (c.fill.ensures.after (λ y e. e))
