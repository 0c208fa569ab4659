use Prim.Native.Nat.{◌+◌, ◌≤◌}
use mathlib.Core.Path.{◌≡◌, ap, sym, ◌∙◌}
use mathlib.Core.List.{List}
use native.Mathlib.Omega.{arith}
use lib.ListN.{length}
use lib.Seq.{slice}
use Rattle.layout.specs.Puts.{put_at}
use Rattle.layout.specs.Refusals.{cue_limit}
use Rattle.layout.proofs.FieldLaws.{passed, failed}
use Rattle.writer.specs.Loading.{points}
use Rattle.writer.specs.declared.Cue.{Cue}
use Rattle.writer_assign_cues.specs.Taking.{filled_bytes}
use Rattle.writer_assign_cues.proofs.TakeLaws.{none_left, same-part, tally_few}
use Rattle.writer_assign_cues.proofs.PointLaws.{cues_size, no_cues-put, too_long}
use borrow.Author.Rules.{rules}
use Rattle.writer_assign_cues.proofs.put_taken.Goals as goal
use Rattle.writer_assign_cues.proofs.put_taken.Goals.{After-min-most, After-tally-taken}

-- the part of the table up to its end is the part up to the place
part : (c : After-min-most) → slice c.args.from c.min-most.result c.args.cues ≡ slice c.args.from c.args.to c.args.cues
part c = same-part c.args.cues c.args.to _ (search rules) c.min-most.ensures c.args.from

counted : (c : After-tally-taken) → (c.tally-taken.result.points ≡ points (slice c.args.from c.min-most.result c.args.cues)) × (c.tally-taken.result.points ≤ cue_limit)
counted c =
    tally_few c.args.cues c.args.from _ (search rules) (omega (arith, c.min-most.ensures)) (omega (arith, c.if-from-most.true)) c.tally-taken.ensures

pub tally-taken-requires : goal.tally-taken-requires
tally-taken-requires c = (omega arith, omega (arith, c.min-most.ensures))

pub overflow_mul-taken : goal.overflow_mul-taken
overflow_mul-taken c = omega (arith, (counted (goal.at.overflow_mul-taken c).After-tally-taken).1)

pub put_within-requires : goal.put_within-requires
put_within-requires c =
    let k = counted (goal.at.put_within-requires c).After-tally-taken in
    let room : c.args.at + c.align-size.result ≤ length c.args.buf.now = passed c.inside.ensures c.if-inside.true in
    record {
      to_le_cue_limit = omega (arith, c.min-most.ensures);
      taking = record { above = omega (arith, c.if-from-most.true); counted = k.0 };
      points_in_bounds = omega (arith, room, cues_size _ _ c.align-size.ensures k.1);
    }

pub returns-then-inside : goal.returns-then-inside
returns-then-inside c =
    c.put_within.ensures ∙ ap (λ (cs : List Cue). put_at c.args.buf.now c.args.at (filled_bytes c.args.base c.args.id cs)) (part (goal.at.returns-then-inside c).After-min-most)

pub returns-else-inside : goal.returns-else-inside
returns-else-inside c =
    let k = counted (goal.at.returns-else-inside c).After-tally-taken in
    too_long c.args.buf.now c.args.at c.args.base c.args.id _ _ _ (k.0 ∙ ap points (part (goal.at.returns-else-inside c).After-min-most)) c.align-size.ensures k.1
    (failed c.inside.ensures c.if-inside.false)

pub returns-else-from-most : goal.returns-else-from-most
returns-else-from-most c =
    no_cues-put c.args.buf.now c.args.at c.args.base c.args.id _
    (sym (part (goal.at.returns-else-from-most c).After-min-most) ∙ none_left c.args.cues c.min-most.result c.args.from (search rules) (omega (arith, c.min-most.ensures)) (omega arith))
