use native.Mathlib.Omega.{arith}
use Rattle.std.proofs.Common.{refl, Some, None}
use Rattle.layout.proofs.FieldLaws.{passed_on}
use Rattle.reader_open.proofs.WalkLaws.{at-full, at_refused, all_below, searched_below, at_end, at-loop, at_next}
use Rattle.reader_open.proofs.walk.walk_along.Goals as goal

pub returns-then-count-offsets-clause-value : goal.returns-then-count-offsets-clause-value
returns-then-count-offsets-clause-value c = at-full c.walk.invariant.walking (omega arith)

pub returns-in_err-header-clause-value : goal.returns-in_err-header-clause-value
returns-in_err-header-clause-value c =
    rw (passed_on _ _ c.from_residual.ensures.1) (at_refused c.walk.invariant.walking (omega arith) _ c.in_err-header.ensures)

pub returns-then-next-clause-value : goal.returns-then-next-clause-value
returns-then-next-clause-value c = (at_end c.walk.invariant.walking (omega arith) c.in_ok-header.ensures c.if-next.true).answer

pub returns-then-next-clause-offsets_after : goal.returns-then-next-clause-offsets_after
returns-then-next-clause-offsets_after c = (at_end c.walk.invariant.walking (omega arith) c.in_ok-header.ensures c.if-next.true).left

pub block_at-requires : goal.block_at-requires
block_at-requires c = searched_below c.walk.invariant.walking (omega arith) c.walk.invariant.below c.max-highest.ensures

pub walk-preserved : goal.walk-preserved
walk-preserved c = record {
  walking = at_next c.walk.invariant.walking (omega arith) c.in_ok-header.ensures c.if-next.false None c.in_default.ensures refl;
  below = all_below c.walk.invariant.walking (omega arith) c.walk.invariant.below c.max-highest.ensures;
}

pub returns-clause-value : goal.returns-clause-value
returns-clause-value c =
    (at-loop c.walk.invariant.walking (omega arith) c.in_ok-header.ensures c.if-next.false (Some c.in-Some.i) c.in-Some.ensures refl).answer

pub returns-clause-offsets_after : goal.returns-clause-offsets_after
returns-clause-offsets_after c =
    (at-loop c.walk.invariant.walking (omega arith) c.in_ok-header.ensures c.if-next.false (Some c.in-Some.i) c.in-Some.ensures refl).left
