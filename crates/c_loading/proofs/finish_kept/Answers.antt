use mathlib.Core.Path.{◌≡◌, ap, ◌∙◌}
use Rattle.c_record.specs.KeptWriter.{stream_in, writer_in}
use Rattle.writer.specs.Calls.{Replied, called, called_says, finish_of, Outcome}
use Rattle.writer.specs.declared.HpsWriter.{HpsWriter}
use Rattle.c_record.proofs.KeptLaws.{kept_good, held_gives}
use Rattle.c_opened.specs.Failures.{failure_number}
use Rattle.c_loading.proofs.BackLaws.{finish_after}
use Rattle.c_loading.proofs.CallLaws.{left_err, numbered_err, finish_err, finish_ok}
use Rattle.c_loading.proofs.finish_kept.Goals as goal
use Rattle.c_loading.proofs.finish_kept.Goals.{After-finish-call, After-from_residual-in_err-place}

abbrev finished : After-finish-call → Outcome
finished c = finish_of (writer_in c.args.kept.now) c.args.lent.now

pub finish-call-requires : goal.finish-call-requires
finish-call-requires c = rw (held_gives (stream_in c.args.kept.now) _ _ c.in_ok-w.ensures).0 (kept_good _)

-- the call, on the record that the bytes hold

told : (c : After-finish-call) → (called_says c.finish-call.result ≡ called (finished c)) × (c.finish-call.new.lent ≡ (finished c).lent)
told c =
    let w = (held_gives (stream_in c.args.kept.now) _ _ c.in_ok-w.ensures).0 in (
      c.finish-call.ensures.value ∙ ap (λ (m : HpsWriter). called (finish_of m c.args.lent.now)) w,
      c.finish-call.ensures.lent_after ∙ ap (λ (m : HpsWriter). (finish_of m c.args.lent.now).lent) w,
    )

refused : (c : After-from_residual-in_err-place) → (failure_number c.in_err-place.field-0.0 ≡ 0 → ⊥) × ((finish_of (writer_in c.args.kept.now) c.args.lent.now).lent ≡ c.args.lent.now)
refused c =
    let call = (told (goal.at.returns-in_err-place-clause-kept_after c).After-finish-call).0 in
    finish_err (writer_in c.args.kept.now) c.args.lent.now _ _ c.in_err-place.ensures (ap (λ (q : Replied). q.reply) call)

pub returns-in_err-place-clause-lent_after : goal.returns-in_err-place-clause-lent_after
returns-in_err-place-clause-lent_after c =
    let z = refused c in
    (told (goal.at.returns-in_err-place-clause-kept_after c).After-finish-call).1 ∙ z.1 ∙ left_err _ _ _ _ c.from_residual-in_err-place.ensures.1 z.0

pub returns-in_err-place-clause-fails : goal.returns-in_err-place-clause-fails
returns-in_err-place-clause-fails c =
    numbered_err _ _ c.from_residual-in_err-place.ensures.1 (refused c).0

pub returns-in_err-place-clause-kept_after : goal.returns-in_err-place-clause-kept_after
returns-in_err-place-clause-kept_after c =
    left_err _ _ _ _ c.from_residual-in_err-place.ensures.1 (refused c).0

pub returns-in_err-place-clause-kept_after_2 : goal.returns-in_err-place-clause-kept_after_2
returns-in_err-place-clause-kept_after_2 c =
    left_err _ _ _ _ c.from_residual-in_err-place.ensures.1 (refused c).0

pub returns-clause-kept_after_2 : goal.returns-clause-kept_after_2
returns-clause-kept_after_2 c =
    let k = c.args.kept.now in
    let there = held_gives (stream_in k) _ _ c.in_ok-w.ensures in
    let call = (told (goal.at.returns-clause-kept_after_2 c).After-finish-call).0 in
    let due = finish_ok (writer_in k) c.args.lent.now _ _ c.in_ok-place.ensures (ap (λ (q : Replied). q.reply) call) in
    ap writer_in c.put_finished.ensures ∙ finish_after k c.args.lent.now there.1 due
