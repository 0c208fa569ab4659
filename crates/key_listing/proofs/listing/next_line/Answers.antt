use Rattle.std.proofs.Common.{arith}
use Rattle.reader.proofs.RecordLaws.{shaped}
use Rattle.key_listing.specs.declared.Stage.{Stage}
use Rattle.key_listing.proofs.ListingLaws.{stop-rest, head-rest, done_rest, blocks_past}
use Rattle.key_listing.proofs.LineLaws.{line_done, line_or_lem, stage_as, lines_as, cursor_as}
use Rattle.key_listing.proofs.listing.next_line.Goals as goal

pub returns-in-Stop : goal.returns-in-Stop
returns-in-Stop c =
    let a = c.args in
    stage_as a.s.now a.r a.out.now a.at c.in-Stop.is
    (line_or_lem a.s.now a.r (Stage.Stop _) a.out.now a.at _ _ (stop-rest a.s.now a.r _)
    c.put_stop.ensures _ c.put_or.ensures)

pub returns-in-Head : goal.returns-in-Head
returns-in-Head c =
    let a = c.args in
    stage_as a.s.now a.r a.out.now a.at c.in-Head.is
    (line_or_lem a.s.now a.r Stage.Head a.out.now a.at _ _ (head-rest a.s.now a.r)
    c.put_head.ensures _ c.put_or-in-Head.ensures)

pub returns-in-Blocks-2 : goal.returns-in-Blocks-2
returns-in-Blocks-2 c =
    let a = c.args in
    let e = blocks_past a.s.now a.r (shaped a.r _ c.well_formed.1.0).offsets c.requires.blocks c.in-Blocks.i (omega arith) in
    stage_as a.s.now a.r a.out.now a.at c.in-Blocks.is
    (lines_as a.s.now a.r a.out.now a.at e
    (cursor_as a.s.now a.r a.out.now a.at c.first_cursor.ensures c.cue_line.ensures))

pub returns-in-Done : goal.returns-in-Done
returns-in-Done c =
    let a = c.args in
    stage_as a.s.now a.r a.out.now a.at c.in-Done.is
    (line_done a.s.now a.r Stage.Done a.out.now a.at (done_rest a.s.now a.r))
