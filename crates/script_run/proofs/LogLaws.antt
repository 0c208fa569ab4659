-- What is logged of a script: all its writes, where there is room.
use Prim.Native.Nat.{ℕ, ◌≤◌}
use mathlib.Core.Path.{◌≡◌, refl, sym, ◌∙◌}
use mathlib.Core.Bool.{Bool, true, false}
use mathlib.Core.List.{List, [], ◌∷◌, ◌++◌, append-nil, append_assoc}
use native.Mathlib.Omega.{arith}
use lib.ListN.{length}
use lib.Dec.{eqb}
use borrow.Author.Tests.{le-ltb}
use Rattle.layout.proofs.Cases.{by_cases}
use Rattle.layout.proofs.PutLaws.{put_at-none}
use Rattle.script_lines.specs.Lines.{begin_line}
use Rattle.writer.specs.WritesAndCuttingRule.{handed}
use Rattle.writer.specs.Loading.{Call, has, cue_refusal}
use Rattle.writer.specs.Calls.{places_in, held, after_cue, cue_of, Good}
use Rattle.writer.specs.declared.Cue.{Cue}
use Rattle.writer.specs.declared.HpsWriter.{HpsWriter}
use Rattle.writer.proofs.GoodLaws.{begin_good, cue_kept_lem, push_kept, finish_kept}
use Rattle.writer.proofs.ServerLaws.{cue-writes}
use Rattle.power_cut.specs.PowerCut.{step, writes_of}
use Rattle.cut_write_log.specs.WriteLog.{empty_log, Logging, logging, logged_writes, Listed}
use Rattle.cut_write_log.proofs.WriteLogLaws.{none-listed, listed-all}
use Rattle.cut_logged_calls.specs.LoggedCalls.{lent_of, log_size, log_after, Tally}
use Rattle.cut_logged_calls.proofs.TallyLaws.{Tallied, push_tallied, finish_tallied, begin-is, begin_tally}
use Rattle.script_run.specs.Script.{begun_length, begin_line_in, begins, calls_of, script_writes, script_limit}
use Rattle.script_run.specs.Running.{log_run, script_log, begin_refused, accepted_log, begun_log, not_run, load_log, loaded_by}
use Rattle.cut_write_log.specs.declared.WriteLog.{WriteLog}
use Rattle.std.specs.Prelude.{Some, None}
use Rattle.script_run.proofs.CallLaws.{cue_log}
use Rattle.script_run.proofs.BeginLaws.{begin-accepted, small_slot}

-- ---- A call

-- A cue leaves what is counted as it is.
cue_tally : (w : HpsWriter) (c : Cue) (g : Logging) → Tally g.log w g.bytes → Tally g.log (cue_of w c).writer g.bytes
unfolding cue_of after_cue
cue_tally w c g t =
    let same : Tally g.log (after_cue w c) g.bytes = by_cases (has c (held w)) (λ e. rw e t)
    (λ e. rw e (record { listed = t.listed; room = t.room; small = t.small; many = t.many; bytes = t.bytes })) in
    by_cases (eqb (cue_refusal w.stream.blocks (held w) c) 0) (λ e. rw e same) (λ e. rw e t)

step-tallied : (w : HpsWriter) (c : Call) (g : Logging) → Good w → Tally g.log w g.bytes → Tallied (step w c) g (log_after (step w c) g)
unfolding handed
step-tallied w (Call.cue c) g h t =
    rw (cue_log w c g)
    (record {
      tally = cue_tally w c g t;
      is = rw (cue-writes w c) (sym (append-nil (logged_writes g.log g.bytes)));
      put = rw (cue-writes w c) (sym (put_at-none g.bytes g.log.total));
    })
step-tallied w (Call.push p lent) g h t = push_tallied w p lent g h t
step-tallied w (Call.finish lent) g h t = finish_tallied w lent g h t

step_good : (w : HpsWriter) (c : Call) → Good w → Good (step w c).writer
step_good w (Call.cue c) h = cue_kept_lem w h c
step_good w (Call.push p lent) h = push_kept w h p lent
step_good w (Call.finish lent) h = finish_kept w h lent

-- ---- Calls one after the other

-- Each finds room for its writes.
run_writes : (w : HpsWriter) (g : Logging) (cs : List Call) → Good w → Tally g.log w g.bytes
    → logged_writes (log_run w g cs).log (log_run w g cs).bytes ≡ logged_writes g.log g.bytes ++ writes_of w cs
unfolding log_run writes_of
run_writes w g [] h t = sym (append-nil (logged_writes g.log g.bytes))
run_writes w g (c ∷ cs) h t =
    let s = step-tallied w c g h t in
    run_writes (step w c).writer (log_after (step w c) g) cs (step_good w c h) s.tally ∙ rw (s.is, append_assoc)

run_listed : (w : HpsWriter) (g : Logging) (cs : List Call) → Listed g.log g.bytes → Listed (log_run w g cs).log (log_run w g cs).bytes
unfolding log_run log_after
run_listed w g [] l = l
run_listed w g (c ∷ cs) l = run_listed (step w c).writer (log_after (step w c) g) cs (listed-all (places_in (step w c).reply) g (step w c).lent 0 l)

-- ---- A script

some_log : (r : Bool) {j k : WriteLog} → Some j ≡ accepted_log r k → (r ≡ false) × (j ≡ k)
some_log true e = absurd (cc)
some_log false e = (refl, cc)

no_log : (r : Bool) (k : WriteLog) → None ≡ accepted_log r k → r ≡ true
no_log true k e = refl
no_log false k e = absurd (cc)

module _ (slot : ℕ) (s logged : List ℕ) where
  script_listed : Listed (script_log slot s logged).log (script_log slot s logged).bytes
  unfolding script_log log_after
  script_listed =
      run_listed (begins slot s).writer (log_after (begins slot s) (logging empty_log logged)) (calls_of s)
      (listed-all (places_in (begins slot s).reply) (logging empty_log logged) (begins slot s).lent 0 (none-listed logged))

  load_listed : Listed (load_log slot s logged).log (load_log slot s logged).bytes
  unfolding load_log begun_log
  load_listed =
      by_cases (not_run s logged) (λ t. rw t (none-listed logged))
      (λ t. by_cases (begin_refused slot s) (λ u. rw (t, u) (none-listed logged)) (λ u. rw (t, u) script_listed))

  script_is : log_size ≤ length logged → begin_refused slot s ≡ false → logged_writes (script_log slot s logged).log (script_log slot s logged).bytes ≡ script_writes slot s
  unfolding script_log script_writes begins
  script_is room f =
      let b = begin_line (begin_line_in s).line in
      let lent = lent_of (begin_line_in s).lent in
      let n = begun_length slot in
      let fine = begin-accepted n b.channels b lent f in
      let t = begin_tally n b.channels b.mode lent logged room (small_slot slot b.channels (length lent) fine.0) fine.1 in
      run_writes (begins slot s).writer (log_after (begins slot s) (logging empty_log logged)) (calls_of s) (begin_good n b.channels b.mode lent) t
      ∙ rw (begin-is n b.channels b.mode lent logged (omega arith))

  -- The script is not too long, and there is room: "If begin is refused, its STOP line is the whole answer"; else all its writes are logged.
  module _ (few : length s ≤ script_limit) (room : log_size ≤ length logged) where
    run : not_run s logged ≡ false
    run = rw (le-ltb script_limit (length s) few, le-ltb (length logged) log_size room)

    pub loaded_none : None ≡ loaded_by slot s logged → begin_refused slot s ≡ true
    loaded_none e = no_log (begin_refused slot s) _ (rw run at e)

    module _ {j : WriteLog} {after : List ℕ} (h : Some j ≡ loaded_by slot s logged) (g : after ≡ (load_log slot s logged).bytes) where
      said : (begin_refused slot s ≡ false) × (j ≡ (load_log slot s logged).log)
      said = some_log (begin_refused slot s) (rw run at h)

      pub loaded_accepted : begin_refused slot s ≡ false
      loaded_accepted = said.0

      -- The bytes of all writes that are logged are there.
      pub loaded_listed : Listed j after
      loaded_listed = rw (said.1, g) load_listed

      pub loaded_is : logged_writes j after ≡ script_writes slot s
      unfolding load_log begun_log
      loaded_is = rw (said.1, g, run, said.0) (script_is room said.0)
