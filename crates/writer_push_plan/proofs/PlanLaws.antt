-- For the proof of the plan: the loop block, the sizes, and what follows where no number is due.
use Rattle.std.specs.Prelude.{Option, Some, None}
use Prim.Native.Nat.{ℕ, ◌+◌, ◌-◌, ◌*◌, ◌<◌, ◌≤◌}
use mathlib.Core.Path.{◌≡◌, refl, ap, sym, ◌∙◌}
use mathlib.Core.Bool.{Bool, true, false, not}
use mathlib.Core.List.{[], ◌++◌}
use native.Mathlib.Omega.{arith}
use borrow.Author.Tests.{lt-ltb, ltb-false, leb-false, eq-eqb, ne_eqb, eqb-true, not-false}
use lib.Dec.{ltb, eqb, lit<}
use Rattle.layout.specs.Choice.{◌and◌}
use Rattle.layout.specs.Records.{padded_size, adpcm_bytes, adpcm_samples, data_after, block_header_size}
use Rattle.layout.specs.Refusals.{first_due, slot_limit, block_limit, length_limit, mono_limit}
use Rattle.layout.specs.Sizes.{usize_max, saturated}
use Rattle.layout.specs.declared.FrameContext.{FrameContext}
use Rattle.layout.proofs.SizeLaws.{aligned, saturated-fits, saturated_over}
use Rattle.layout.proofs.Cases.{by_cases, apart, or_false, none-due}
use Rattle.writer.specs.Calls.{record_of, Good}
use Rattle.layout.proofs.Lengths.{padded_size_above}
use Rattle.writer.specs.Push.{loops_here, loop_from, next_offset, advanced}
use Rattle.writer.specs.declared.Looping.{Looping}
use Rattle.writer.specs.declared.Looping.TheVariants.{Disabled, Enabled, Auto}
use Rattle.writer.specs.declared.ChannelBlock.{ChannelBlock}
use Rattle.writer.proofs.GoodLaws.{short_length, looped-after}
use Rattle.writer.specs.Loading.{data_size, second_context, push_order, state_due, no_addresses, blocks_due, rate_due, length_due, data_due, coefficients_due, early_due, room_due}
use Rattle.writer_push_refusal.proofs.DecideLaws.{group_yes, group_no}
use Rattle.writer_push_refusal.proofs.GroupLaws.{state_numbered, early_numbered}
use Rattle.writer_assign_cues.specs.declared.Taken.{Taken}
use Rattle.writer_push_plan.specs.PushPlan.{Planned, plan_due, header_in, no_plan, made_plan, plan_of}
use Rattle.writer.specs.declared.Setup.{Setup}
use Rattle.writer.specs.declared.Stream.{Stream}

-- ---- The sample that a block ends before

module _ (base n s : ℕ) (e : s ≡ adpcm_samples n) where
  pub end_fits : s ≤ usize_max - base → base ≤ usize_max → base + s ≡ saturated (base + adpcm_samples n)
  end_fits h b = rw e (sym (saturated-fits _ (omega arith)))

  pub end_over : usize_max - base < s → base ≤ usize_max → usize_max ≡ saturated (base + adpcm_samples n)
  end_over h b = rw (← e) (sym (saturated_over _ (omega arith)))

-- ---- The loop block

module _ (mode : Looping) (held asked : Bool) (end : ℕ) (last : Bool) where
  pub loops_off : mode ≡ Disabled → false ≡ loops_here mode held asked end last
  unfolding loops_here
  loops_off m = rw m

  pub loops_asked : mode ≡ Auto → asked ≡ loops_here mode held asked end last
  unfolding loops_here
  loops_asked m = rw m

  module _ (m : mode ≡ Enabled) where
    pub loops-held : held ≡ true → asked ≡ loops_here mode held asked end last
    unfolding loops_here
    loops-held h = rw (m, h)

    pub loops-last : held ≡ false → last ≡ true → true ≡ loops_here mode held asked end last
    unfolding loops_here
    loops-last h l = rw (m, h, l)

    pub loops_past : held ≡ false → last ≡ false → ltb 0 end ≡ loops_here mode held asked end last
    unfolding loops_here
    loops_past h l = rw (m, h, l)

-- ---- Sizes

module _ (ch l r x : ℕ) (small : l ≤ mono_limit) (is : x ≡ saturated (padded_size l)) where
  pub left_size : (ch ≡ 2 → ⊥) → x ≡ data_size ch l r
  unfolding data_size
  left_size h = rw (ne_eqb ch 2 h) (is ∙ aligned l (omega arith))

  pub both_size : (y : ℕ) → ch ≡ 2 → r ≤ mono_limit → y ≡ saturated (padded_size r) → x + y ≡ data_size ch l r
  unfolding data_size
  both_size y h s e = rw (eq-eqb ch 2 h, is, e, aligned l (omega arith), aligned r (omega arith))

pub aligned_small : (l x : ℕ) → l ≤ mono_limit → x ≡ saturated (padded_size l) → x ≤ mono_limit
unfolding padded_size
aligned_small l x h e = let p = aligned l (omega arith) in omega arith

pub size_small : (ch l r x : ℕ) → l ≤ mono_limit → (ch ≡ 2 → r ≤ mono_limit) → x ≡ data_size ch l r → x ≤ length_limit
unfolding data_size padded_size
size_small ch l r x h k e =
    by_cases (eqb ch 2)
    (λ q. let b = k (eqb-true ch 2 q) in let f : x ≡ padded_size l + padded_size r = e ∙ rw q in omega arith)
    (λ q. let f : x ≡ padded_size l = e ∙ rw q in omega arith)

pub block-small : (k d x : ℕ) → k ≤ slot_limit → d ≤ length_limit → x ≡ data_after k + d → x ≤ block_header_size + length_limit + 8 * slot_limit
unfolding padded_size
block-small k d x h g e = omega arith

pub cues_end : (k x : ℕ) → k ≤ slot_limit → x ≡ saturated (padded_size (8 * k)) → x ≡ padded_size (8 * k)
cues_end k x h e = e ∙ aligned (8 * k) (omega arith)

pub filled-small : (k x : ℕ) → k ≤ slot_limit → x ≡ saturated (padded_size (8 * k)) → x ≤ 8 * slot_limit
unfolding padded_size
filled-small k x h e = let p = cues_end k x h e in omega arith

-- ---- What follows where none from 25 on is due before 24

pub record Passing (blocks ch : ℕ) (l : ChannelBlock) (lb rb : ℕ) : Type 0 where
  pub few : blocks < block_limit
  pub long : 2 ≤ l.length
  pub short : l.length ≤ length_limit
  pub left : lb ≤ mono_limit
  pub right : ch ≡ 2 → rb ≤ mono_limit

half : (n : ℕ) → n ≤ length_limit → adpcm_bytes n ≤ mono_limit
unfolding adpcm_bytes
half n h = omega arith

and_rest : (a b : Bool) → a ≡ true → a and b ≡ false → b ≡ false
and_rest true b h e = e
and_rest false b h e = apart (sym h)

same_if : (ch x y : ℕ) → eqb ch 2 and not (eqb x y) ≡ false → ch ≡ 2 → x ≡ y
same_if ch x y h e = eqb-true x y (not-false (eqb x y) (and_rest (eqb ch 2) _ (eq-eqb ch 2 e) h))

pub passing : (n blocks : ℕ) (f g : ChannelBlock) (ch : ℕ) (l r : ChannelBlock) (lb rb : ℕ)
    → n ≡ first_due (early_due blocks f g ch l r lb rb) → n ≡ 0 → Passing blocks ch l lb rb
unfolding early_due blocks_due rate_due length_due data_due coefficients_due
passing n blocks f g ch l r lb rb is z =
    let h₁ = none-due 25 _ _ (lit< tt) (sym is ∙ z) in
    let h₂ = none-due 15 _ _ (lit< tt) h₁.1 in
    let h₃ = none-due 22 _ _ (lit< tt) h₂.1 in
    let h₄ = none-due 9 _ _ (lit< tt) h₃.1 in
    let h₅ = none-due 12 _ _ (lit< tt) h₄.1 in
    let h₆ = none-due 10 _ _ (lit< tt) h₅.1 in
    let h₇ = none-due 13 _ _ (lit< tt) h₆.1 in
    let h₈ = none-due 11 _ _ (lit< tt) h₇.1 in
    let bytes = or_false _ _ h₈.0 in
    let short : l.length ≤ length_limit = short_length l.length ch (ltb-false _ _ h₇.0) in
    record {
      few = leb-false block_limit blocks h₁.0;
      long = ltb-false l.length 2 h₆.0;
      short = short;
      left = omega (arith, eqb-true lb (adpcm_bytes l.length) (not-false _ bytes.0), half l.length short);
      right = λ e.
          let same = same_if ch l.length r.length h₅.0 e in
          omega (arith, same_if ch rb (adpcm_bytes r.length) bytes.1 e, ap adpcm_bytes same, half l.length short);
    }

-- ---- The loop block after a block of the stream

pub loop_near : (u : Setup) (s : Stream) → Good (record_of u s) → (here : Bool) (l : Option ℕ) → l ≡ loop_from s.loopat s.offset here → (n : ℕ) → l ≡ Some n → n ≤ s.offset
loop_near u s g here l is n q = looped-after s.loopat here s.offset s.offset g.looped (omega arith) n (sym is ∙ q)

-- ---- The plan

-- a block that fits has room in slot and buffer
pub fits-room : (slot offset size lent m : ℕ) → m ≡ first_due (room_due slot offset size lent) → m ≡ 0 → (offset + size ≤ slot) × (size ≤ lent)
unfolding room_due
fits-room slot offset size lent m is z =
    let h = none-due 24 _ _ (lit< tt) (sym is ∙ z) in
    let g = none-due 14 _ _ (lit< tt) h.1 in
    (ltb-false slot (offset + size) h.0, ltb-false lent size g.0)

module _ (u : Setup) (s : Stream) (t : Taken) (held : Bool) (end ch : ℕ) (l r : ChannelBlock) (lb rb : ℕ) (last : Bool) (lent : ℕ) where
  abbrev empty : Bool
  empty = no_addresses ch l.length r.length lb rb last

  refused_plan : (n : ℕ) → n ≡ plan_due u s t.points ch l r lb rb last lent → (n ≡ 0 → ⊥) → no_plan n s ≡ plan_of u s t held end ch l r lb rb last lent
  unfolding plan_of
  refused_plan n is h =
      by_cases empty (λ q. rw (q, ← is)) (λ q. rw (q, ne_eqb (plan_due u s t.points ch l r lb rb last lent) 0 (λ z. h (is ∙ z)), ← is))

  pub plan_state : (n : ℕ) → n ≡ first_due (state_due s.last u.channels ch) → (n ≡ 0 → ⊥) → (p : Planned) → p ≡ no_plan n s → p ≡ plan_of u s t held end ch l r lb rb last lent
  unfolding plan_due push_order
  plan_state n is h p e = e ∙ refused_plan n (group_yes n _ _ is h) h

  -- what the groups after 29 give
  module _ (v : ℕ) (state : v ≡ first_due (state_due s.last u.channels ch)) (clear : v ≡ 0) where
    pub plan_empty : empty ≡ true → (p : Planned) → p ≡ no_plan 0 s → p ≡ plan_of u s t held end ch l r lb rb last lent
    unfolding plan_of plan_due push_order first_due
    plan_empty q p e =
        e ∙ ap (λ (n : ℕ). no_plan n s) (group_no v 0 _ [] (state_numbered _ _ _) state clear refl) ∙ rw q

    -- the same by what the code has of it
    module _ (x : Bool) (asked : x ≡ empty) where
      pub plan_asked : x ≡ true → (p : Planned) → p ≡ no_plan 0 s → p ≡ plan_of u s t held end ch l r lb rb last lent
      plan_asked h = plan_empty (sym asked ∙ h)

    module _ (some : empty ≡ false) where
      rest : (n : ℕ) → n ≡ first_due (early_due s.blocks s.left s.right ch l r lb rb ++ room_due u.slot s.offset (data_after t.points + data_size ch lb rb) lent)
          → n ≡ plan_due u s t.points ch l r lb rb last lent
      unfolding plan_due push_order
      rest n is = group_no v n _ _ (state_numbered _ _ _) state clear (rw some is)

      module _ (n : ℕ) (is : n ≡ first_due (early_due s.blocks s.left s.right ch l r lb rb)) where
        pub plan_early : (n ≡ 0 → ⊥) → (p : Planned) → p ≡ no_plan n s → p ≡ plan_of u s t held end ch l r lb rb last lent
        plan_early h p e = e ∙ refused_plan n (rest n (group_yes n _ _ is h)) h

        -- more points and ranges than the slot has bytes
        pub plan_many : n ≡ 0 → u.slot < 8 * t.points → (p : Planned) → p ≡ no_plan 24 s → p ≡ plan_of u s t held end ch l r lb rb last lent
        unfolding room_due first_due
        plan_many none h p e =
            let over : u.slot < s.offset + (data_after t.points + data_size ch lb rb) = omega (arith, padded_size_above (8 * t.points)) in
            e ∙ refused_plan 24 (rest 24 (group_no n 24 _ _ (early_numbered _ _ _ _ _ _ _ _) is none (rw (lt-ltb u.slot _ over)))) (λ z. omega arith)

        module _ (none : n ≡ 0) (m size : ℕ) (sized : size ≡ data_after t.points + data_size ch lb rb) (room : m ≡ first_due (room_due u.slot s.offset size lent)) where
          room-is : m ≡ plan_due u s t.points ch l r lb rb last lent
          room-is = rest m (group_no n m _ _ (early_numbered _ _ _ _ _ _ _ _) is none (room ∙ ap (λ (k : ℕ). first_due (room_due u.slot s.offset k lent)) sized))

          pub plan_room : (m ≡ 0 → ⊥) → (p : Planned) → p ≡ no_plan m s → p ≡ plan_of u s t held end ch l r lb rb last lent
          plan_room h p e = e ∙ refused_plan m room-is h

          module _ (fits : m ≡ 0) (here : Bool) (loops : here ≡ loops_here u.mode held t.asked end last)
              (loopat : Option ℕ) (looped : loopat ≡ loop_from s.loopat s.offset here) where
            pub plan_made : (bytes start next : ℕ) (other : FrameContext) (after : Stream) → bytes ≡ data_size ch lb rb → start ≡ data_after t.points
                → next ≡ next_offset last loopat (s.offset + size) → other ≡ second_context ch r
                → after ≡ advanced s t.to t.points end size loopat l r last
                → record {
                  due = 0;
                  header = record { size = bytes; end_address = l.length - 1; next_offset = next; left = l.context; right = other; cues = t.points };
                  start = start;
                  size = size;
                  after = after;
                }
                ≡ plan_of u s t held end ch l r lb rb last lent
            unfolding plan_of made_plan header_in
            plan_made bytes start next other after ed es en eo ea =
                rw (some, eq-eqb (plan_due u s t.points ch l r lb rb last lent) 0 (sym room-is ∙ fits), ed, es, en, eo, ea, looped, loops, sized)

    module _ (x : Bool) (asked : x ≡ empty) (n : ℕ) (is : n ≡ first_due (early_due s.blocks s.left s.right ch l r lb rb)) where
      pub plan_early_asked : x ≡ false → (n ≡ 0 → ⊥) → (p : Planned) → p ≡ no_plan n s → p ≡ plan_of u s t held end ch l r lb rb last lent
      plan_early_asked h = plan_early (sym asked ∙ h) n is
