use native.Mathlib.Omega.{arith}
use Rattle.key_listing.specs.MarkingKey.{listing}
use Rattle.key_listing.proofs.LineLaws.{filled-inside, filled_prefix}
use Rattle.key_listing.proofs.ListingSize.{listing-small}
use Rattle.key_print.proofs.PortionLaws.{next_bytes, next_from, next-inside, all_printed, less_listed}
use borrow.Author.Rules.{rules}
use Rattle.key_print.proofs.print_listing.Goals as goal

pub returns-then-n-eq0 : goal.returns-then-n-eq0
returns-then-n-eq0 g c =
    let i = c.loop-start.invariant in
    let room = i.0.0 in
    let end = all_printed c.fill-filled.ensures (listing _) _ i.1.0 (omega arith) c.if-n-eq0.true i.1.1 in
    record { most = omega arith; all = end }

pub slice_bounds-out-end : goal.slice_bounds-out-end
slice_bounds-out-end g c = filled-inside c.fill-filled.ensures

pub write_lines-all-requires : goal.write_lines-all-requires
write_lines-all-requires g c =
    let s = c.args.s.now in
    let f = c.fill-filled.ensures in
    rw (← filled_prefix f) (next_bytes f (listing s) c.loop-start.length c.loop-start.invariant.1.0)

pub overflow_add-length : goal.overflow_add-length
overflow_add-length g c =
    let i = c.loop-start.invariant in
    omega (arith, listing-small _ _ _ i.0.1, next-inside c.fill-filled.ensures (listing _) _ i.1.0 i.1.1)

pub returns-then-not-all : goal.returns-then-not-all
returns-then-not-all g c =
    let i = c.loop-start.invariant in
    record { most = next-inside c.fill-filled.ensures (listing _) _ i.1.0 i.1.1; all = tt }

pub loop-start-smaller : goal.loop-start-smaller
loop-start-smaller g c = less_listed c.fill-filled.ensures c.if-n-eq0.false

pub loop-start-preserved : goal.loop-start-preserved
loop-start-preserved g c =
    let i = c.loop-start.invariant in
    let f = c.fill-filled.ensures in
    ((search rules, i.0.1), (next_from f (listing _) _ i.1.0, next-inside f (listing _) _ i.1.0 i.1.1))

pub slice_bounds-write_lines-end : goal.slice_bounds-write_lines-end
slice_bounds-write_lines-end g c = filled_prefix c.fill-filled.ensures
