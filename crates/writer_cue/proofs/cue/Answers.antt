use Rattle.std.proofs.Common.{sym}
use Rattle.writer.specs.Calls.{held}
use Rattle.writer_cue.proofs.CueCallLaws.{place_is, held_count, put_inside, put_is, cue_refused, cue_accepted, equal_adds_nothing, room_left, new_is_put}
use Rattle.writer_cue.proofs.cue.Goals as goal

pub returns-in-Err-clause-value : goal.returns-in-Err-clause-value
returns-in-Err-clause-value c =
    rw (cue_refused c.args.w c.args.c c.requires c.is_bad-bad.ensures c.holds-equal.ensures c.in-Err.refusal c.in-Err.ensures)

pub returns-then-equal-clause-value : goal.returns-then-equal-clause-value
returns-then-equal-clause-value c =
    rw (
      cue_accepted c.args.w c.args.c c.requires c.is_bad-bad.ensures c.holds-equal.ensures c.in_default.ensures,
      equal_adds_nothing c.args.w c.args.c c.requires c.is_bad-bad.ensures c.holds-equal.ensures c.in_default.ensures c.if-equal.true,
    )

pub put_in-cues-requires : goal.put_in-cues-requires
put_in-cues-requires c =
    let at = place_is c.args.c (held c.args.w) c.next_after.ensures c.unwrap_or-place.ensures (sym (held_count c.args.w c.args.c c.requires)) in (
      put_inside c.args.w c.args.c c.requires at,
      room_left c.args.w c.args.c c.requires c.is_bad-bad.ensures c.holds-equal.ensures c.in_default.ensures c.if-equal.false,
    )

pub returns-clause-value : goal.returns-clause-value
returns-clause-value c =
    let at = place_is c.args.c (held c.args.w) c.next_after.ensures c.unwrap_or-place.ensures (sym (held_count c.args.w c.args.c c.requires)) in
    rw (
      cue_accepted c.args.w c.args.c c.requires c.is_bad-bad.ensures c.holds-equal.ensures c.in_default.ensures,
      new_is_put c.args.w c.args.c c.requires c.is_bad-bad.ensures c.holds-equal.ensures c.if-equal.false (put_is c.args.w c.args.c c.requires at c.put_in-cues.ensures),
    )
