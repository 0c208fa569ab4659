use Rattle.std.proofs.Common.{◌≡◌, ℕ, ◌+◌, ◌≤◌, Err, refl, ap, sym, ◌∙◌, arith, rules}
use borrow.Author.Tests.{eqb-false}
use Rattle.layout.specs.Refusals.{length_limit}
use Rattle.writer.proofs.DueLaws.{not_zero}
use Rattle.writer_push_plan.specs.PushPlan.{plan_says}
use Rattle.writer_push_plan.proofs.PlanLaws.{Passing, passing, size_small, block-small, fits-room, plan_state, plan_asked, plan_early_asked, plan_many, plan_room, plan_made, loop_near}
use Rattle.writer_push_plan.proofs.plan_push.Goals as goal

ap_sum : {x y m n : ℕ} → x ≡ m → y ≡ n → x + y ≡ m + n
ap_sum e f = rw (e, f)

-- ---- The refusals and the empty push

pub returns-in_err-state_due-clause-planned : goal.returns-in_err-state_due-clause-planned
returns-in_err-state_due-clause-planned c =
    let a = c.args in
    let x = c.in_err-state_due.field-0.0 in
    let e : c.from_residual.result ≡ Err x = search rules in
    plan_state a.setup a.s a.taken a.held a.end a.channels a.left a.right a.left_bytes a.right_bytes a.last a.lent _ c.in_err-state_due.ensures
    (eqb-false _ 0 (not_zero x)) _ (ap (plan_says a.s) e)

pub returns-then-empty-clause-planned : goal.returns-then-empty-clause-planned
returns-then-empty-clause-planned c =
    let a = c.args in
    plan_asked a.setup a.s a.taken a.held a.end a.channels a.left a.right a.left_bytes a.right_bytes a.last a.lent 0 c.in_ok-state_due.ensures refl _
    c.no_addresses-empty.ensures c.if-empty.true _ refl

pub returns-in_err-early_due-clause-planned : goal.returns-in_err-early_due-clause-planned
returns-in_err-early_due-clause-planned c =
    let a = c.args in
    let x = c.in_err-early_due.field-0.0 in
    let e : c.from_residual-in_err-early_due.result ≡ Err x = search rules in
    plan_early_asked a.setup a.s a.taken a.held a.end a.channels a.left a.right a.left_bytes a.right_bytes a.last a.lent 0 c.in_ok-state_due.ensures refl _
    c.no_addresses-empty.ensures _ c.in_err-early_due.ensures c.if-empty.false (eqb-false _ 0 (not_zero x)) _ (ap (plan_says a.s) e)

pub returns-then-taken-gt-SLOT_LIMIT-clause-planned : goal.returns-then-taken-gt-SLOT_LIMIT-clause-planned
returns-then-taken-gt-SLOT_LIMIT-clause-planned c =
    let a = c.args in
    plan_many a.setup a.s a.taken a.held a.end a.channels a.left a.right a.left_bytes a.right_bytes a.last a.lent 0 c.in_ok-state_due.ensures refl
    (sym c.no_addresses-empty.ensures ∙ c.if-empty.false) 0 c.in_ok-early_due.ensures refl (omega (arith, c.requires.small, c.if-taken-gt-SLOT_LIMIT.true)) _ refl

pub returns-in_err-room_due-clause-planned : goal.returns-in_err-room_due-clause-planned
returns-in_err-room_due-clause-planned c =
    let a = c.args in
    let x = c.in_err-room_due.field-0.0 in
    let e : c.from_residual-in_err-room_due.result ≡ Err x = search rules in
    plan_room a.setup a.s a.taken a.held a.end a.channels a.left a.right a.left_bytes a.right_bytes a.last a.lent 0 c.in_ok-state_due.ensures refl
    (sym c.no_addresses-empty.ensures ∙ c.if-empty.false) 0 c.in_ok-early_due.ensures refl _ _ (ap_sum c.data_start-start.ensures c.data_size-data.ensures)
    c.in_err-room_due.ensures (eqb-false _ 0 (not_zero x)) _ (ap (plan_says a.s) e)

-- ---- The block

pub data_size-data-requires : goal.data_size-data-requires
data_size-data-requires c =
    let a = c.args in
    let h : Passing a.s.blocks a.channels a.left a.left_bytes a.right_bytes = passing 0 _ _ _ _ _ _ _ _ c.in_ok-early_due.ensures refl in
    (h.left, h.right)

pub overflow_add-size : goal.overflow_add-size
overflow_add-size c =
    let a = c.args in
    let h : Passing a.s.blocks a.channels a.left a.left_bytes a.right_bytes = passing 0 _ _ _ _ _ _ _ _ c.in_ok-early_due.ensures refl in
    let d : c.data_size-data.result ≤ length_limit = size_small _ _ _ _ h.left h.right c.data_size-data.ensures in
    omega (arith, block-small _ _ _ c.if-taken-gt-SLOT_LIMIT.false d (ap (λ m. m + c.data_size-data.result) c.data_start-start.ensures))

pub overflow_add-s : goal.overflow_add-s
overflow_add-s c =
    let a = c.args in
    let r : (a.s.offset + (c.data_start-start.result + c.data_size-data.result) ≤ a.setup.slot) × (c.data_start-start.result + c.data_size-data.result ≤ a.lent) =
    fits-room _ _ _ _ 0 c.in_ok-room_due.ensures refl in
    omega (arith, r.0, c.requires.small)

pub next_offset-next-requires : goal.next_offset-next-requires
next_offset-next-requires c =
    let a = c.args in
    let g = c.requires in
    let r : (a.s.offset + (c.data_start-start.result + c.data_size-data.result) ≤ a.setup.slot) × (c.data_start-start.result + c.data_size-data.result ≤ a.lent) =
    fits-room _ _ _ _ 0 c.in_ok-room_due.ensures refl in
    record {
      end_bound = omega (arith, r.0, g.small);
      by_index = λ n q. omega (arith, loop_near _ _ g c.loop_due-due.result _ c.loop_after-loopat.ensures n q, g.room, g.small);
    }

pub overflow_cast-padded : goal.overflow_cast-padded
overflow_cast-padded c =
    let a = c.args in
    let h : Passing a.s.blocks a.channels a.left a.left_bytes a.right_bytes = passing 0 _ _ _ _ _ _ _ _ c.in_ok-early_due.ensures refl in
    let d : c.data_size-data.result ≤ length_limit = size_small _ _ _ _ h.left h.right c.data_size-data.ensures in
    record { fits = omega arith }

pub overflow_sub-last_address : goal.overflow_sub-last_address
overflow_sub-last_address c =
    let a = c.args in
    let h : Passing a.s.blocks a.channels a.left a.left_bytes a.right_bytes = passing 0 _ _ _ _ _ _ _ _ c.in_ok-early_due.ensures refl in
    omega (arith, h.long)

pub overflow_cast-end_address : goal.overflow_cast-end_address
overflow_cast-end_address c =
    let a = c.args in
    let h : Passing a.s.blocks a.channels a.left a.left_bytes a.right_bytes = passing 0 _ _ _ _ _ _ _ _ c.in_ok-early_due.ensures refl in
    record { fits = omega (arith, h.short) }

pub advance-after-requires : goal.advance-after-requires
advance-after-requires c =
    let a = c.args in
    let h : Passing a.s.blocks a.channels a.left a.left_bytes a.right_bytes = passing 0 _ _ _ _ _ _ _ _ c.in_ok-early_due.ensures refl in
    let r : (a.s.offset + (c.data_start-start.result + c.data_size-data.result) ≤ a.setup.slot) × (c.data_start-start.result + c.data_size-data.result ≤ a.lent) =
    fits-room _ _ _ _ 0 c.in_ok-room_due.ensures refl in
    let g = c.requires in
    let few = c.if-taken-gt-SLOT_LIMIT.false in (
      omega (arith, g.named, g.placed, g.few, few),
      h.few,
      few,
      omega (arith, r.0, g.small),
      omega (arith, h.short, g.sums, g.many),
    )

pub returns-clause-planned : goal.returns-clause-planned
returns-clause-planned c =
    let a = c.args in
    plan_made a.setup a.s a.taken a.held a.end a.channels a.left a.right a.left_bytes a.right_bytes a.last a.lent 0 c.in_ok-state_due.ensures refl
    (sym c.no_addresses-empty.ensures ∙ c.if-empty.false) 0 c.in_ok-early_due.ensures refl 0 _ (ap_sum c.data_start-start.ensures c.data_size-data.ensures)
    c.in_ok-room_due.ensures refl _ c.loop_due-due.ensures _ c.loop_after-loopat.ensures _ _ _ _ _ c.data_size-data.ensures c.data_start-start.ensures
    c.next_offset-next.ensures c.second_context-other.ensures c.advance-after.ensures
