use Prim.Native.Nat.{◌+◌, ◌<◌}
use mathlib.Core.Path.{◌≡◌, refl, ap, sym, ◌∙◌}
use mathlib.Core.Bool.{Bool}
use Rattle.std.proofs.Common.{Ok, Err, Result, Option, Some, None, IfSome}
use Rattle.layout.specs.Answers.{number_of}
use Rattle.layout.specs.declared.refusal.Refusal.{Refusal}
use Rattle.layout.proofs.FieldLaws.{passed_on}
use Rattle.writer.specs.declared.Writes.{Writes}
use borrow.Author.Tests.{eqb-false}
use Rattle.writer.proofs.DueLaws.{not_zero}
use Rattle.writer_push_plan.specs.declared.Plan.{Plan}
use native.Mathlib.Omega.{arith}
use lib.ListN.{length}
use lib.Seq.{slice}
use Rattle.writer.specs.Loading.{Push, any_loop, push_args}
use Rattle.writer.specs.Calls.{Replied, push_of}
use Rattle.c_record.specs.Fields.{fields_of, fields_with}
use Rattle.c_record.specs.declared.Fields.{Fields}
use Rattle.writer.specs.Push.{loops_here, loop_from}
use Rattle.layout.specs.Sizes.{saturated}
use Rattle.layout.specs.Records.{adpcm_samples}
use Rattle.writer_push_plan.specs.PushPlan.{plan_of, plan_says}
use Rattle.layout.specs.Puts.{put_at}
use Rattle.writer_assign_cues.specs.Taking.{filled_bytes}
use Rattle.c_record.specs.KeptSides.{table_in, cues_at}
use Rattle.c_record.specs.KeptWriter.{stream_in, writer_in, taken_in, held_in}
use Rattle.c_record.proofs.KeptLaws.{kept_good, held_gives, loop-same}
use Rattle.writer.proofs.GoodLaws.{parts_good}
use Rattle.writer_push.proofs.PushLaws.{push_refused, push_nothing, push_accepted, to_within, are_taken, Worked, due-is, some_block, no_block, totals, sized, room, bytes_are}
use Rattle.c_loading.specs.KeptLoading.{kept_says, where_written}
use Rattle.c_loading.proofs.CallLaws.{numbered_err, some_says, left_err}
use Rattle.c_record_put.specs.KeptRecord.{pushed_bytes}
use Rattle.c_loading.proofs.AfterLaws.{holds}
use Rattle.c_loading.proofs.BackLaws.{SideFits}
use Rattle.c_push.proofs.PushedLaws.{signed_field, push_after, push_stream}
use borrow.Author.Rules.{rules}
use Rattle.c_push.proofs.push_kept.Goals as goal
use Rattle.c_push.proofs.push_kept.Goals.{After-plan_push, In_ok-f, Start}

-- ---- What is known at the places of the code

-- the push, in the words of the definitions
abbrev pushed : Start → Push
pushed c = push_args c.args.channels c.args.left c.args.right c.args.left_data.now c.args.right_data.now c.args.last

-- the bytes hold a record
there : (c : In_ok-f) → (c.in_ok-f.f ≡ stream_in c.args.kept.now) × ((stream_in c.args.kept.now).setup.slot ≡ 0 → ⊥)
there c = held_gives (stream_in c.args.kept.now) _ _ c.in_ok-f.ensures

planned-is : {r : Result (Option Plan) Refusal} {p q : Option Plan} → r ≡ Ok p → p ≡ q → Ok q ≡ r
planned-is a b = cc

has-bytes : {p : Option Plan} {q : Plan} → p ≡ Some q → IfSome p (λ x. 0 < x.size) → q.size ≡ 0 → ⊥
has-bytes {p} {q} e h z = let k : 0 < q.size = rw e at h in omega arith

-- what is worked out, by the plan that is answered
worked : (c : After-plan_push) (v : Result (Option Plan) Refusal) → v ≡ c.plan_push.result
    → Worked (writer_in c.args.kept.now) c.args.channels c.args.left c.args.right c.args.left_data.now c.args.right_data.now c.args.last c.args.lent.now
    c.block_end-end.result c.take_kept-taken.result c.held_kept-held.result (plan_says (stream_in c.args.kept.now).stream v)
worked c v v-is =
    let a = c.args in
    let k = a.kept.now in
    let is = (held_gives (stream_in k) _ _ c.in_ok-f.ensures).0 in
    record {
      good = kept_good k;
      ends = c.block_end-end.ensures ∙ ap (λ (m : Fields). saturated (m.stream.base + adpcm_samples a.left.length)) is;
      takes = c.take_kept-taken.ensures ∙ ap (λ (m : Fields). taken_in k m.stream.next m.count c.block_end-end.result a.last) is;
      loops =
          ap
          (λ (b : Bool). loop_from (stream_in k).stream.loopat (stream_in k).stream.offset
          (loops_here (stream_in k).setup.mode b c.take_kept-taken.result.asked c.block_end-end.result a.last))
          (c.held_kept-held.ensures ∙ ap (λ (m : Fields). held_in m.setup.mode m.stream.loopat (any_loop (slice 0 m.count (table_in k cues_at m.count)))) is)
          ∙ loop-same (stream_in k).setup.mode (stream_in k).stream.loopat _ _ _ _ _;
      plans =
          ap (plan_says (stream_in k).stream) v-is
          ∙ ap (λ (m : Fields). plan_says m.stream c.plan_push.result) (sym is)
          ∙ c.plan_push.ensures.planned
          ∙ (let t = c.take_kept-taken.result in
          let held = c.held_kept-held.result in
          let end = c.block_end-end.result in
          λ i. plan_of (is i).setup (is i).stream t held end a.channels a.left a.right (length a.left_data.now) (length a.right_data.now)
          a.last (length a.lent.now));
    }

channels : (c : In_ok-f) → c.in_ok-f.f.setup.channels < 18446744073709551616
channels c = search rules

-- the sides are values of their types

left-fits : (c : Start) → SideFits c.args.left
left-fits c =
    record {
      typed = record {
        rate = search rules;
        addresses = search rules;
        coefficients = record { sixteen = search rules; each = search (signed_field, rules) };
        gain = search rules;
        context = record { scale = search rules; last = search rules; oldest = search rules };
      };
      short = c.requires.0;
    }

right_fits : (c : Start) → SideFits c.args.right
right_fits c =
    record {
      typed = record {
        rate = search rules;
        addresses = search rules;
        coefficients = record { sixteen = search rules; each = search (signed_field, rules) };
        gain = search rules;
        context = record { scale = search rules; last = search rules; oldest = search rules };
      };
      short = c.requires.1;
    }

-- ---- The needs

pub take_kept-taken-requires : goal.take_kept-taken-requires
take_kept-taken-requires c = let g = kept_good c.args.kept.now in rw (there (goal.at.take_kept-taken-requires c).In_ok-f).0 (g.placed, g.few)

pub held_kept-held-requires : goal.held_kept-held-requires
held_kept-held-requires c = rw (there (goal.at.held_kept-held-requires c).In_ok-f).0 (kept_good c.args.kept.now).few

pub plan_push-requires : goal.plan_push-requires
plan_push-requires c =
    let k = c.args.kept.now in
    rw (there (goal.at.plan_push-requires c).In_ok-f).0 (parts_good (writer_in k) (kept_good k))

pub returns-in_err-planned-clause-given : goal.returns-in_err-planned-clause-given
returns-in_err-planned-clause-given c =
    let k = c.args.kept.now in
    let e = (there (goal.at.returns-in_err-planned-clause-given c).In_ok-f).1 in
    let p = pushed (goal.at.returns-in_err-planned-clause-given c).Start in
    let x = c.in_err-planned.field-0.0 in
    let h = eqb-false (number_of x) 0 (not_zero x) in
    let told = c.from_residual-in_err-planned.ensures.1 in
    let w = worked (goal.at.returns-in_err-planned-clause-given c).After-plan_push (Err x) (sym c.in_err-planned.was) in
    let q = push_refused (writer_in k) p c.args.lent.now (number_of x) (due-is w) h _ refl in (
      ap kept_says (passed_on _ _ told) ∙ some_says k (push_of (writer_in k) p c.args.lent.now) e _ (Err x) refl (ap (λ (y : Replied). y.reply) q.0),
      left_err _ _ _ _ told h,
      left_err _ _ _ _ told h,
      left_err _ _ _ _ told h,
    )

pub returns-in_err-planned-clause-fails : goal.returns-in_err-planned-clause-fails
returns-in_err-planned-clause-fails c =
    let x = c.in_err-planned.field-0.0 in
    numbered_err _ _ c.from_residual-in_err-planned.ensures.1 (eqb-false (number_of x) 0 (not_zero x))

-- an empty push
pub returns-in_default-clause-given : goal.returns-in_default-clause-given
returns-in_default-clause-given c =
    let e = (there (goal.at.returns-in_default-clause-given c).In_ok-f).1 in
    let p = pushed (goal.at.returns-in_default-clause-given c).Start in
    let k = c.args.kept.now in
    let w = worked (goal.at.returns-in_default-clause-given c).After-plan_push (Ok None) (planned-is c.in_ok-planned.was c.in_default.is) in
    let q = push_nothing (writer_in k) p c.args.lent.now 0 (due-is w) refl (no_block w refl refl) in (
      some_says k (push_of (writer_in k) p c.args.lent.now) e _ (Ok Writes.None) refl (ap (λ (x : Replied). x.reply) q.0),
      q.1,
      ap (λ (x : Replied). where_written x.reply (put_at k 0 (pushed_bytes (fields_of x.writer))) k) q.0,
      ap (λ (x : Replied). x.writer) q.0,
    )

pub put_taken_kept-requires : goal.put_taken_kept-requires
put_taken_kept-requires c =
    let w = worked (goal.at.put_taken_kept-requires c).After-plan_push (Ok (Some c.in-Some.plan)) (planned-is c.in_ok-planned.was c.in-Some.is) in
    let n = some_block w (has-bytes c.in-Some.is c.in_ok-planned.ensures.some_bytes) in
    let k = c.args.kept.now in
    let g = kept_good k in
    let is = (there (goal.at.put_taken_kept-requires c).In_ok-f).0 in
    record {
      count_le_cue_limit = (rw is g.few, to_within (writer_in k) g _ _ _ w.takes, rw is (omega (arith, g.named, g.placed, g.few)));
      taking = rw is (are_taken (writer_in k) g _ _ _ w.takes);
      points_in_bounds = omega (arith, totals w refl n, (room w refl n).1);
    }

pub put_pushed-requires : goal.put_pushed-requires
put_pushed-requires c = omega (arith, (holds c.args.kept.now (there (goal.at.put_pushed-requires c).In_ok-f).1).room)

pub returns-clause-given : goal.returns-clause-given
returns-clause-given c =
    let s = (goal.at.returns-clause-given c).Start in
    let k = c.args.kept.now in
    let held = there (goal.at.returns-clause-given c).In_ok-f in
    let e = held.1 in
    let is = held.0 in
    let w = worked (goal.at.returns-clause-given c).After-plan_push (Ok (Some c.in-Some.plan)) (planned-is c.in_ok-planned.was c.in-Some.is) in
    let n = some_block w (has-bytes c.in-Some.is c.in_ok-planned.ensures.some_bytes) in
    let taken-to = c.take_kept-taken.result.to in
    let put = c.put_taken_kept.ensures
    ∙ ap (λ (m : Fields). put_at c.put_header.new.buf 32 (filled_bytes m.stream.base m.stream.id (slice m.stream.next taken-to (table_in k cues_at m.count)))) is in
    let b = bytes_are w refl n _ _ _ c.put_header.ensures put c.put_data.ensures in
    let q = push_accepted (writer_in k) (pushed s) c.args.lent.now _ (due-is w) refl n _ _ _ refl (sized w refl n) (room w refl n).1 b in
    let r = some_says k (push_of (writer_in k) (pushed s) c.args.lent.now) e _ (Ok (Writes.One _)) refl (ap (λ (x : Replied). x.reply) q.0) in
    let after = c.put_pushed.ensures ∙ ap (λ (m : Fields). put_at k 0 (pushed_bytes (fields_with m c.in-Some.plan.after))) is in
    let long : (stream_in k).setup.channels < 18446744073709551616 = omega (arith, channels (goal.at.returns-clause-given c).In_ok-f, ap (λ (m : Fields). m.setup.channels) is) in
    let stays = push_stream k e w refl n (left-fits s) (right_fits s) long in (
      ap (λ (m : Fields). kept_says (Ok (record { offset = m.stream.offset; length = c.in-Some.plan.size }))) is ∙ r,
      q.1,
      after ∙ ap (λ (m : Fields). put_at k 0 (pushed_bytes m)) stays
          ∙ ap (λ (x : Replied). where_written x.reply (put_at k 0 (pushed_bytes (fields_of (push_of (writer_in k) (pushed s) c.args.lent.now).writer))) k) q.0,
      ap writer_in after ∙ push_after k e w refl n (left-fits s) (right_fits s) long,
    )
