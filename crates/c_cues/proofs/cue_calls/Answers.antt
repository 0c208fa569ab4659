use mathlib.Core.Path.{◌≡◌, refl, ap, sym, ◌∙◌}
use native.Mathlib.Omega.{arith}
use Rattle.layout.specs.Records.{no_channel}
use Rattle.layout.specs.declared.Channel.{Channel}
use Rattle.reader.proofs.RecordLaws.{element}
use Rattle.layout.proofs.FieldLaws.{passed_on}
use Rattle.c_opened.specs.Failures.{failure_number, told}
use Rattle.c_opened.specs.KeptReader.{reader_in}
use Rattle.c_opened.proofs.KeptReads.{opened_gives, opened_none}
use Rattle.c_cues.specs.KeptCues.{CuesLent, cues_number, cues_lent}
use Rattle.c_cues.proofs.CallLaws.{table-long, two-channels, parts, short_cursor, no_record, no_room, left, gave}
use Rattle.c_cues.proofs.cue_calls.Goals as goal
use Rattle.c_cues.proofs.cue_calls.Goals.{Start, After-from_residual}

-- what is lent

abbrev lent : Start → CuesLent
lent s = record { cursor = s.args.cursor.now; out = s.args.out.now; cues = s.args.cues.now }

pub returns-then-cursor-lt-CURSOR_SIZE : goal.returns-then-cursor-lt-CURSOR_SIZE
returns-then-cursor-lt-CURSOR_SIZE c =
    let all = short_cursor _ _ (lent (goal.at.returns-then-cursor-lt-CURSOR_SIZE c).Start) c.if-cursor-lt-CURSOR_SIZE.true in
    record {
      value = all.0;
      fact = all.1;
    }

left_none : (c : After-from_residual) → (254 ≡ cues_number c.args.slot.now c.args.kept.now (lent (goal.at.returns-in_err-r-clause-fact c).Start))
    × (◌≡◌ {A = CuesLent} (lent (goal.at.returns-in_err-r-clause-fact c).Start) (cues_lent c.args.slot.now c.args.kept.now (lent (goal.at.returns-in_err-r-clause-fact c).Start)))
left_none c = no_record _ _ _ c.if-cursor-lt-CURSOR_SIZE.false (reader_in c.args.kept.now) refl (opened_none (reader_in c.args.kept.now) _ c.in_err-r.ensures.value).1

pub returns-in_err-r-clause-value : goal.returns-in_err-r-clause-value
returns-in_err-r-clause-value c =
    ap told (passed_on _ _ c.from_residual.ensures.1)
    ∙ ap failure_number (opened_none (reader_in c.args.kept.now) _ c.in_err-r.ensures.value).0
    ∙ (left_none c).0

pub returns-in_err-r-clause-fact : goal.returns-in_err-r-clause-fact
returns-in_err-r-clause-fact c = (left_none c).1

pub returns-then-out-lt-CUE_SIZE : goal.returns-then-out-lt-CUE_SIZE
returns-then-out-lt-CUE_SIZE c =
    let all = no_room _ _ (lent (goal.at.returns-then-out-lt-CUE_SIZE c).Start) c.if-cursor-lt-CURSOR_SIZE.false _ (opened_gives (reader_in c.args.kept.now) _ c.in_ok-r.ensures.value).0 (opened_gives (reader_in c.args.kept.now) _ c.in_ok-r.ensures.value).1 c.if-out-lt-CUE_SIZE.true in
    record {
      value = all.0;
      fact = all.1;
    }

pub fill_cues-filled-requires : goal.fill_cues-filled-requires
fill_cues-filled-requires c = table-long _ _ (opened_gives (reader_in c.args.kept.now) _ c.in_ok-r.ensures.value).0

pub returns-then-gives : goal.returns-then-gives
returns-then-gives c =
    let r = c.in_ok-r.r in
    let e = (opened_gives (reader_in c.args.kept.now) _ c.in_ok-r.ensures.value).0 in
    let p = parts _ r e _ (ap (λ (x : Channel). x.format) (element r.channels 0 no_channel _ (omega (arith, two-channels _ r e)))) in
    let g = c.fill_cues-filled.ensures in
    let all = gave _ _ (lent (goal.at.returns-then-gives c).Start) c.if-cursor-lt-CURSOR_SIZE.false r e
    (opened_gives (reader_in c.args.kept.now) _ c.in_ok-r.ensures.value).1 c.if-out-lt-CUE_SIZE.false _
    c.cursor_in-c.ensures _ (g.value r p) (g.out_after r p)
    c.end_after-end.ensures c.put_cursor.ensures
    (sym c.gives.ensures ∙ c.if-gives.true) in
    record {
      value = all.0;
      fact = all.1;
    }

pub returns-else-gives : goal.returns-else-gives
returns-else-gives c =
    let r = c.in_ok-r.r in
    let e = (opened_gives (reader_in c.args.kept.now) _ c.in_ok-r.ensures.value).0 in
    let p = parts _ r e _ (ap (λ (x : Channel). x.format) (element r.channels 0 no_channel _ (omega (arith, two-channels _ r e)))) in
    let g = c.fill_cues-filled.ensures in
    let all = left _ _ (lent (goal.at.returns-else-gives c).Start) c.if-cursor-lt-CURSOR_SIZE.false r e
    (opened_gives (reader_in c.args.kept.now) _ c.in_ok-r.ensures.value).1 c.if-out-lt-CUE_SIZE.false _
    c.cursor_in-c.ensures _ (g.value r p) (g.out_after r p)
    c.end_after-end.ensures (sym c.gives.ensures ∙ c.if-gives.false) in
    record {
      value = all.0;
      fact = all.1;
    }
