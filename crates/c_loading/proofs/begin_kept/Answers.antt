use mathlib.Core.Path.{◌≡◌, ap, ◌∙◌}
use native.Mathlib.Omega.{arith}
use lib.ListN.{length}
use Rattle.layout.specs.Puts.{put_at}
use Rattle.writer.specs.Loading.{mode_of}
use Rattle.writer.specs.Calls.{Replied, called, called_says, begin_of, Outcome}
use Rattle.writer.specs.declared.Looping.{Looping}
use Rattle.c_opened.specs.Failures.{failure_number}
use Rattle.c_loading.specs.KeptLoading.{bytes_begun}
use Rattle.c_record.specs.Fields.{fields_of}
use Rattle.c_record.specs.declared.Fields.{Fields}
use Rattle.c_record.specs.KeptWriter.{writer_in}
use Rattle.c_record_put.specs.KeptRecord.{record_bytes}
use Rattle.c_record_put.proofs.RecordLaws.{record_put}
use Rattle.c_loading.proofs.BackLaws.{begin-after, begin-sixteen}
use Rattle.c_loading.proofs.CallLaws.{left_err, numbered_err, mode_gives, begin_err, begin_ok}
use Rattle.c_loading.proofs.begin_kept.Goals as goal
use Rattle.c_loading.proofs.begin_kept.Goals.{After-begin-call, After-from_residual-in_err-place, After-put_sides}

-- begin, by the mode's number

abbrev begun : After-begin-call → Outcome
begun c = begin_of c.args.slot c.args.channels (mode_of c.args.mode) c.args.lent.now

told : (c : After-begin-call) → (called_says c.begin-call.result ≡ called (begun c)) × (c.begin-call.new.lent ≡ (begun c).lent)
told c =
    let a = c.args in
    let m = mode_gives a.mode _ c.in_ok-looping.ensures in (
      c.begin-call.ensures.value ∙ ap (λ (x : Looping). called (begin_of a.slot a.channels x a.lent.now)) m,
      c.begin-call.ensures.lent_after ∙ ap (λ (x : Looping). (begin_of a.slot a.channels x a.lent.now).lent) m,
    )

refused : (c : After-from_residual-in_err-place) → (failure_number c.in_err-place.field-0.0 ≡ 0 → ⊥) × ((begin_of c.args.slot c.args.channels (mode_of c.args.mode) c.args.lent.now).lent ≡ c.args.lent.now)
refused c =
    let call = (told (goal.at.returns-in_err-place-clause-kept_after c).After-begin-call).0 in
    begin_err c.args.slot c.args.channels (mode_of c.args.mode) c.args.lent.now _ _ c.in_err-place.ensures (ap (λ (q : Replied). q.reply) call)

pub returns-in_err-place-clause-lent_after : goal.returns-in_err-place-clause-lent_after
returns-in_err-place-clause-lent_after c =
    let z = refused c in
    (told (goal.at.returns-in_err-place-clause-kept_after c).After-begin-call).1 ∙ z.1 ∙ left_err _ _ _ _ c.from_residual-in_err-place.ensures.1 z.0

pub returns-in_err-place-clause-fails : goal.returns-in_err-place-clause-fails
returns-in_err-place-clause-fails c =
    numbered_err _ _ c.from_residual-in_err-place.ensures.1 (refused c).0

pub returns-in_err-place-clause-kept_after : goal.returns-in_err-place-clause-kept_after
returns-in_err-place-clause-kept_after c =
    left_err _ _ _ _ c.from_residual-in_err-place.ensures.1 (refused c).0

pub returns-in_err-place-clause-kept_after_2 : goal.returns-in_err-place-clause-kept_after_2
returns-in_err-place-clause-kept_after_2 c =
    left_err _ _ _ _ c.from_residual-in_err-place.ensures.1 (refused c).0

put : (c : After-put_sides) → c.put_sides.new.kept ≡ bytes_begun c.args.kept.now (begin_of c.args.slot c.args.channels (mode_of c.args.mode) c.args.lent.now)
put c =
    let a = c.args in
    let k = a.kept.now in
    let m = mode_gives a.mode _ c.in_ok-looping.ensures in
    let call = c.begin-call.ensures.value ∙ ap (λ (x : Looping). called (begin_of a.slot a.channels x a.lent.now)) m in
    let fields : c.from-f.result ≡ fields_of (begin_of a.slot a.channels (mode_of a.mode) a.lent.now).writer = c.from-f.ensures ∙ ap (λ (q : Replied). fields_of q.writer) call in
    let sixteen = begin-sixteen k a.slot a.channels (mode_of a.mode) a.lent.now in
    record_put k _ c.from-f.result c.put_numbers.ensures (omega (arith, c.if-kept-lt-LOADER_SIZE.false))
    (ap (λ (m : Fields). length m.stream.left.coefficients) fields ∙ sixteen.0)
    (ap (λ (m : Fields). length m.stream.right.coefficients) fields ∙ sixteen.1)
    c.put_sides.ensures
    ∙ ap (λ (m : Fields). put_at k 0 (record_bytes m)) fields

pub returns-clause-kept_after : goal.returns-clause-kept_after
returns-clause-kept_after c = put (goal.at.returns-clause-kept_after_2 c).After-put_sides

pub returns-clause-kept_after_2 : goal.returns-clause-kept_after_2
returns-clause-kept_after_2 c =
    let a = c.args in
    let call = (told (goal.at.returns-clause-kept_after_2 c).After-begin-call).0 in
    let due = begin_ok a.slot a.channels (mode_of a.mode) a.lent.now _ _ c.in_ok-place.ensures (ap (λ (q : Replied). q.reply) call) in
    ap writer_in (put (goal.at.returns-clause-kept_after_2 c).After-put_sides) ∙ begin-after a.kept.now a.slot a.channels (mode_of a.mode) a.lent.now c.if-kept-lt-LOADER_SIZE.false c.ranges.channels.fits due
