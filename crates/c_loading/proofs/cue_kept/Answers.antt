use mathlib.Core.Path.{◌≡◌, ap, ◌∙◌}
use Rattle.c_record.specs.KeptWriter.{stream_in, writer_in}
use Rattle.writer.specs.Calls.{Replied, called, called_says, cue_of, Outcome}
use Rattle.writer.specs.declared.HpsWriter.{HpsWriter}
use Rattle.c_record.proofs.KeptLaws.{kept_good, held_gives}
use Rattle.c_opened.specs.Failures.{failure_number}
use Rattle.c_loading.proofs.CallLaws.{left_err, cue_err}
use Rattle.c_loading.proofs.AfterLaws.{holds, cue-after}
use Rattle.c_loading.proofs.cue_kept.Goals as goal
use Rattle.c_loading.proofs.cue_kept.Goals.{After-cue-call, After-from_residual-in_err-place, In_ok-w}

abbrev cued : After-cue-call → Outcome
cued c = cue_of (writer_in c.args.kept.now) c.args.c

there : (c : In_ok-w) → (c.in_ok-w.w ≡ writer_in c.args.kept.now) × ((stream_in c.args.kept.now).setup.slot ≡ 0 → ⊥)
there c = held_gives (stream_in c.args.kept.now) _ _ c.in_ok-w.ensures

pub cue-call-requires : goal.cue-call-requires
cue-call-requires c = rw (held_gives (stream_in c.args.kept.now) _ _ c.in_ok-w.ensures).0 (kept_good _)

-- the call, on the record that the bytes hold

told : (c : After-cue-call) → called_says c.cue-call.result ≡ called (cued c)
told c = c.cue-call.ensures.value ∙ ap (λ (m : HpsWriter). called (cue_of m c.args.c)) (held_gives (stream_in c.args.kept.now) _ _ c.in_ok-w.ensures).0

refused : (c : After-from_residual-in_err-place) → failure_number c.in_err-place.field-0.0 ≡ 0 → ⊥
refused c = cue_err (writer_in c.args.kept.now) c.args.c _ _ c.in_err-place.ensures (ap (λ (q : Replied). q.reply) (told (goal.at.returns-in_err-place-clause-kept_after c).After-cue-call))

pub returns-in_err-place-clause-kept_after : goal.returns-in_err-place-clause-kept_after
returns-in_err-place-clause-kept_after c = left_err _ _ _ _ c.from_residual-in_err-place.ensures.1 (refused c)

pub returns-in_err-place-clause-kept_after_2 : goal.returns-in_err-place-clause-kept_after_2
returns-in_err-place-clause-kept_after_2 c = left_err _ _ _ _ c.from_residual-in_err-place.ensures.1 (refused c)

pub put_table-requires : goal.put_table-requires
put_table-requires c = (c.cue-call.ensures.good.few, (holds c.args.kept.now (there (goal.at.put_table-requires c).In_ok-w).1).room)

pub returns-clause-kept_after_2 : goal.returns-clause-kept_after_2
returns-clause-kept_after_2 c =
    let k = c.args.kept.now in
    let w = ap (λ (q : Replied). q.writer) (told (goal.at.returns-clause-kept_after_2 c).After-cue-call) in
    cue-after k c.args.c c.cue-call.result.writer c.put_table.new.kept (there (goal.at.returns-clause-kept_after_2 c).In_ok-w).1 w c.put_table.ensures.kept_after c.put_table.ensures.n_after
