-- For the proof of push: the order of refusals, and the block's bytes and the record afterwards by the plan.
use Prim.Native.Nat.{ℕ, ◌+◌, ◌≤◌}
use mathlib.Core.Path.{◌≡◌, refl, ap, sym, ◌∙◌}
use mathlib.Core.Bool.{Bool, true, false}
use mathlib.Core.List.{List, append-nil, flat_map}
use native.Mathlib.Omega.{arith}
use native.Mathlib.Nat.{zero-add}
use borrow.Author.Tests.{ltb-false, eq-eqb, ne_eqb, eqb-true, eqb-false}
use lib.ListN.{length}
use lib.Seq.{slice}
use lib.Dec.{eqb}
use Rattle.layout.specs.Records.{adpcm_samples, padded, data_after}
use Rattle.layout.specs.Refusals.{Due, first_due, cue_limit, length_limit}
use Rattle.layout.specs.Sizes.{saturated}
use Rattle.layout.specs.Puts.{put_at}
use Rattle.layout.proofs.Cases.{by_cases}
use Rattle.layout.proofs.SizeLaws.{saturated-fits}
use Rattle.layout.proofs.PutLaws.{put_at_in}
use Rattle.layout_put_block.specs.HeaderPut.{header_put}
use Rattle.writer.specs.Loading.{Push, push_args, data_in, points, any_loop, data_size, size_with, block_size, bytes_of, state_due, no_addresses, empty_push, early_due}
use Rattle.writer.specs.Loading.{push_order, push_refusal}
use Rattle.writer.specs.Push.{count_taken, cues_taken, loop_from, loops_here, advanced}
use Rattle.writer.specs.WritesAndCuttingRule.{handed}
use Rattle.writer.specs.Calls.{Reply, Replied, called, sample_end, taken_of, end_for, state_in, loop_due, loop_after, next_for, with_stream, after_block, push_bytes, push_of, Good}
use Rattle.writer.specs.declared.ChannelBlock.{ChannelBlock}
use Rattle.writer.specs.declared.HpsWriter.{HpsWriter}
use Rattle.writer.proofs.DueLaws.{passed}
use Rattle.writer.proofs.GoodLaws.{samples_few}
use Rattle.writer.proofs.WriteLaws.{bytes_length}
use Rattle.writer_push_refusal.proofs.DecideLaws.{group_yes, group_same, group_none}
use Rattle.writer_push_refusal.proofs.GroupLaws.{state_numbered}
use Rattle.writer_assign_cues.specs.declared.Taken.{Taken}
use Rattle.writer_assign_cues.specs.Taking.{tallied, filled_bytes, Taking}
use Rattle.writer_assign_cues.proofs.TakeLaws.{taken_slice, taken_count, taken_within, taken_few, taking}
use Rattle.writer_push_plan.specs.PushPlan.{Planned, plan_due, header_in, no_plan, made_plan, plan_of}
use Rattle.writer_push_plan.proofs.PlanLaws.{Passing, passing}
use Rattle.writer_push.proofs.DataLaws.{block-put}

-- ---- What push leaves

pub has_room : (w : HpsWriter) (p : Push) (lent size : ℕ) → empty_push p ≡ false → push_refusal (state_in w) (taken_of w p) p lent ≡ 0 → size ≡ block_size (taken_of w p) p
    → (w.stream.offset + size ≤ w.setup.slot) × (size ≤ lent)
has_room w p lent size some h e =
    let f = passed _ _ p _ some h in
    let a = ltb-false w.setup.slot (w.stream.offset + block_size (taken_of w p) p) f.no24 in
    let b = ltb-false lent (block_size (taken_of w p) p) f.no14 in
    (omega arith, omega arith)

module _ (w : HpsWriter) (p : Push) (lent : List ℕ) (n : ℕ) (is : n ≡ push_refusal (state_in w) (taken_of w p) p (length lent)) where
  pub push_refused : (n ≡ 0 → ⊥) → (q : Replied) → q ≡ record { reply = Reply.Refused n; writer = w }
      → (q ≡ called (push_of w p lent)) × (lent ≡ (push_of w p lent).lent)
  unfolding push_of
  push_refused h q e =
      let f : eqb (push_refusal (state_in w) (taken_of w p) p (length lent)) 0 ≡ false = ne_eqb _ 0 (λ z. h (is ∙ z)) in
      rw (f, e, is) (refl, refl)

  pub push_nothing : n ≡ 0 → empty_push p ≡ true → (◌≡◌ {A = Replied} (record { reply = Reply.NoWrite; writer = w }) (called (push_of w p lent))) × (lent ≡ (push_of w p lent).lent)
  unfolding push_of handed
  push_nothing z e =
      let f : eqb (push_refusal (state_in w) (taken_of w p) p (length lent)) 0 ≡ true = eq-eqb _ 0 (sym is ∙ z) in
      rw (f, e) (refl, refl)

  pub push_accepted : n ≡ 0 → empty_push p ≡ false → (v : HpsWriter) (size : ℕ) (b : List ℕ) → v ≡ after_block w p → size ≡ block_size (taken_of w p) p → size ≤ length lent
      → b ≡ put_at lent 0 (push_bytes w p)
      → (◌≡◌ {A = Replied} (record { reply = Reply.OneWrite (record { offset = w.stream.offset; length = size }); writer = v }) (called (push_of w p lent))) × (b ≡ (push_of w p lent).lent)
  unfolding push_of handed push_bytes
  push_accepted z e v size b ev es h eb =
      let f : eqb (push_refusal (state_in w) (taken_of w p) p (length lent)) 0 ≡ true = eq-eqb _ 0 (sym is ∙ z) in
      let n = bytes_length (next_for w p) w.stream.base w.stream.id (taken_of w p) p in
      let i = put_at_in lent 0 (push_bytes w p) (omega arith) in
      rw (f, e, ev, es) (rw n, rw append-nil (eb ∙ i ∙ rw zero-add))

-- ---- The order of refusals

module _ (w : HpsWriter) (ch : ℕ) (l r : ChannelBlock) (ld rd : List ℕ) (last : Bool) where
  abbrev early : List Due
  early = early_due w.stream.blocks w.stream.left w.stream.right ch l r (length ld) (length rd)

  abbrev empty : Bool
  empty = no_addresses ch l.length r.length (length ld) (length rd) last

  -- the number of a plan that counts the points and ranges right where none from 25 on is due before 24
  planned_due : (k m lent : ℕ) → (first_due early ≡ 0 → k ≡ m)
      → plan_due w.setup w.stream k ch l r (length ld) (length rd) last lent ≡ first_due (push_order (state_in w) m ch l r (length ld) (length rd) last lent)
  unfolding plan_due push_order
  planned_due k m lent h =
      by_cases empty (λ e. rw e)
      (λ e. rw e
      (group_same (state_due w.stream.last w.setup.channels ch) _ _
      (by_cases (eqb (first_due early) 0)
      (λ q. rw (h (eqb-true _ 0 q)))
      (λ q. sym (group_yes (first_due early) early _ refl (eqb-false _ 0 q)) ∙ group_yes (first_due early) early _ refl (eqb-false _ 0 q)))))

  -- none from 25 on is due before 24 where none is due at all, and the push is not empty
  early-none : (k lent : ℕ) → empty ≡ false → plan_due w.setup w.stream k ch l r (length ld) (length rd) last lent ≡ 0 → first_due early ≡ 0
  unfolding plan_due push_order
  early-none k lent e z =
      let rest = group_none (state_due w.stream.last w.setup.channels ch) _ (state_numbered _ _ _) (rw e at z) in
      by_cases (eqb (first_due early) 0) (λ q. eqb-true _ 0 q) (λ q. group_yes (first_due early) early _ refl (eqb-false _ 0 q) ∙ rest)

-- ---- The cues that a push takes

module _ (w : HpsWriter) (g : Good w) (end : ℕ) (last : Bool) (t : Taken)
    (takes : t ≡ tallied (w.stream.next + count_taken w.table.cues w.stream.next w.table.count end last) (cues_taken w.table.cues w.stream.next w.table.count end last)) where
  in_table : w.table.count ≤ length w.table.cues
  in_table = omega (arith, g.few, g.table)

  pub to_within : t.to ≤ cue_limit
  to_within = omega (arith, taken_within w.table.cues w.stream.next w.table.count end last g.placed in_table t takes, g.few)

  pub few-points : t.points ≤ cue_limit
  few-points = omega (arith, taken_few w.table.cues w.stream.next w.table.count end last g.placed in_table t takes, to_within)

  pub are_taken : Taking w.table.cues w.stream.next t.to t.points
  are_taken = taking w.table.cues w.stream.next w.table.count end last g.placed in_table t takes

-- ---- What a push does, by its plan

-- the sample that the block ends before, the cues that it takes, whether the table has a Loop as far as that counts, and the plan
pub record Worked (w : HpsWriter) (ch : ℕ) (l r : ChannelBlock) (ld rd : List ℕ) (last : Bool) (lent : List ℕ) (end : ℕ) (t : Taken) (held : Bool) (plan : Planned) : Type 0 where
  pub good : Good w
  pub ends : end ≡ saturated (w.stream.base + adpcm_samples l.length)
  pub takes : t ≡ tallied (w.stream.next + count_taken w.table.cues w.stream.next w.table.count end last) (cues_taken w.table.cues w.stream.next w.table.count end last)
  pub loops : loop_from w.stream.loopat w.stream.offset (loops_here w.setup.mode held t.asked end last)
      ≡ loop_from w.stream.loopat w.stream.offset (loops_here w.setup.mode (any_loop (slice 0 w.table.count w.table.cues)) t.asked end last)
  pub plans : plan ≡ plan_of w.setup w.stream t held end ch l r (length ld) (length rd) last (length lent)

module _ {w : HpsWriter} {ch : ℕ} {l r : ChannelBlock} {ld rd : List ℕ} {last : Bool} {lent : List ℕ} {end : ℕ} {t : Taken} {held : Bool} {plan : Planned}
    (k : Worked w ch l r ld rd last lent end t held plan) where
  abbrev args : Push
  args = push_args ch l r ld rd last

  abbrev number : ℕ
  number = plan_due w.setup w.stream t.points ch l r (length ld) (length rd) last (length lent)

  plan_due_lem : plan.due ≡ number
  unfolding plan_of made_plan
  plan_due_lem =
      ap (λ (p : Planned). p.due) k.plans
      ∙ by_cases (empty_push args) (λ e. rw e) (λ e. rw e (by_cases (eqb number 0) (λ q. rw q (sym (eqb-true _ 0 q))) (λ q. rw q)))

  -- a length that is not refused
  module _ (short : l.length ≤ length_limit) where
    ends_at : end ≡ sample_end w args
    ends_at = k.ends ∙ saturated-fits _ (omega (arith, k.good.base, k.good.many, samples_few l.length))

    same : cues_taken w.table.cues w.stream.next w.table.count end last ≡ taken_of w args
    unfolding taken_of
    same = ap (λ (e : ℕ). cues_taken w.table.cues w.stream.next w.table.count e last) ends_at

    to_is : t.to ≡ w.stream.next + count_taken w.table.cues w.stream.next w.table.count end last
    unfolding tallied
    to_is = ap (λ (x : Taken). x.to) k.takes

    cues_are : slice w.stream.next t.to w.table.cues ≡ taken_of w args
    cues_are =
        ap (λ (m : ℕ). slice w.stream.next m w.table.cues) to_is
        ∙ sym (taken_slice w.table.cues w.stream.next w.table.count end last k.good.placed (in_table w k.good end last t k.takes))
        ∙ same

    next-is : t.to ≡ w.stream.next + length (taken_of w args)
    next-is =
        to_is
        ∙ ap (λ (m : ℕ). w.stream.next + m)
        (sym (taken_count w.table.cues w.stream.next w.table.count end last k.good.placed (in_table w k.good end last t k.takes)) ∙ ap length same)

    counted : t.points ≡ points (taken_of w args)
    unfolding tallied
    counted = ap (λ (x : Taken). x.points) k.takes ∙ ap points same

    asks : t.asked ≡ any_loop (taken_of w args)
    unfolding tallied
    asks = ap (λ (x : Taken). x.asked) k.takes ∙ ap any_loop same

  pub due-is : plan.due ≡ push_refusal (state_in w) (taken_of w args) args (length lent)
  due-is = plan_due_lem ∙ planned_due w ch l r ld rd last t.points _ (length lent) (λ z. counted (passing _ _ _ _ _ _ _ _ _ refl z).short)

  -- a block is planned where the push is not empty
  pub some_block : (plan.size ≡ 0 → ⊥) → empty_push args ≡ false
  unfolding plan_of
  some_block h =
      by_cases (empty_push args)
      (λ e. let is : plan ≡ no_plan number w.stream = k.plans ∙ rw e in absurd (h (ap (λ (p : Planned). p.size) is)))
      (λ e. e)

  module _ (z : plan.due ≡ 0) (some : empty_push args ≡ false) where
    pub passes : Passing w.stream.blocks ch l (length ld) (length rd)
    passes = passing _ _ _ _ _ _ _ _ _ refl (early-none w ch l r ld rd last t.points (length lent) some (sym plan_due_lem ∙ z))

    made : plan ≡ made_plan w.setup w.stream t held end ch l r (length ld) (length rd) last
    unfolding plan_of
    made = k.plans ∙ rw (some, eq-eqb number 0 (sym plan_due_lem ∙ z))

    pub starts : plan.start ≡ data_after t.points
    unfolding made_plan
    starts = ap (λ (p : Planned). p.start) made

    pub totals : plan.size ≡ size_with t.points ch (length ld) (length rd)
    unfolding made_plan
    totals = ap (λ (p : Planned). p.size) made

    pub sized : plan.size ≡ block_size (taken_of w args) args
    sized = totals ∙ ap (λ (m : ℕ). size_with m ch (length ld) (length rd)) (counted passes.short)

    pub room : (w.stream.offset + plan.size ≤ w.setup.slot) × (plan.size ≤ length lent)
    room = has_room w args (length lent) plan.size some (sym due-is ∙ z) sized

    loop-is : loop_from w.stream.loopat w.stream.offset (loops_here w.setup.mode held t.asked end last) ≡ loop_after w args
    unfolding loop_after loop_due
    loop-is = k.loops ∙ rw (asks passes.short, ends_at passes.short)

    end_is : w.stream.offset + plan.size ≡ end_for w args
    unfolding end_for
    end_is = ap (λ (m : ℕ). w.stream.offset + m) sized

    header_is : plan.header ≡ header_in t.points ch l r (length ld) (length rd) (next_for w args)
    unfolding made_plan next_for
    header_is =
        ap (λ (p : Planned). p.header) made
        ∙ ap (λ (n : ℕ). header_in t.points ch l r (length ld) (length rd) n)
        (rw (loop-is, sym totals, end_is))

    pub advances : plan.after ≡ advanced w.stream t.to t.points end (data_after t.points + data_size ch (length ld) (length rd))
        (loop_from w.stream.loopat w.stream.offset (loops_here w.setup.mode held t.asked end last)) l r last
    unfolding made_plan
    advances = ap (λ (p : Planned). p.after) made

    pub after_is : with_stream w plan.after ≡ after_block w args
    unfolding after_block
    after_is =
        ap (with_stream w) advances
        ∙ rw (loop-is, sym totals, next-is passes.short, counted passes.short, ends_at passes.short, sized)

    pub bytes_are : (b₁ b₂ b₃ : List ℕ) → b₁ ≡ put_at lent 0 (header_put plan.header)
        → b₂ ≡ put_at b₁ 32 (filled_bytes w.stream.base w.stream.id (slice w.stream.next t.to w.table.cues))
        → b₃ ≡ put_at b₂ plan.start (flat_map padded (data_in ch ld rd)) → b₃ ≡ put_at lent 0 (push_bytes w args)
    unfolding push_bytes bytes_of
    bytes_are b₁ b₂ b₃ e₁ e₂ e₃ =
        block-put w.stream.base w.stream.id t.points ch (slice w.stream.next t.to w.table.cues) l r ld rd lent (next_for w args)
        (are_taken w k.good end last t k.takes).counted (few-points w k.good end last t k.takes) (omega (arith, totals, room.1))
        plan.header header_is b₁ b₂ b₃ plan.start starts e₁ e₂ e₃
        ∙ rw (cues_are passes.short)

  -- and where none is, it is
  pub no_block : plan.due ≡ 0 → plan.size ≡ 0 → empty_push args ≡ true
  no_block z h = by_cases (empty_push args) (λ e. e) (λ e. absurd (omega (arith, totals z e)))
