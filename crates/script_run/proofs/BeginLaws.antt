-- A script's begin, and its calls after it.
use Prim.Native.Nat.{ℕ, ◌+◌, ◌<◌, ◌≤◌}
use mathlib.Core.Path.{◌≡◌, refl, ap, sym, ◌∙◌}
use mathlib.Core.Bool.{Bool, true, false}
use mathlib.Core.List.{List, []}
use native.Mathlib.Omega.{arith}
use lib.ListN.{length, drop}
use lib.Dec.{eqb, ltb}
use borrow.Author.Tests.{eqb-true, ltb-false, lt-ltb, le-ltb}
use Rattle.layout.proofs.Cases.{by_cases, apart, or_false}
use Rattle.script_words.specs.Texts.{line_of, lines_after, lines_of}
use Rattle.script_lines.specs.Lines.{begin_line}
use Rattle.script_lines.specs.declared.lines.BeginLine.{BeginLine}
use Rattle.script_groups.specs.Order.{Starts}
use Rattle.script_groups.specs.declared.Start.{Start}
use Rattle.writer.specs.Loading.{accepted, begin_refusal}
use Rattle.writer.specs.Calls.{Outcome, Reply, reply_says, places_in, begin_of, answer_of}
use Rattle.writer.specs.declared.Writes.{Writes}
use Rattle.layout.specs.declared.refusal.Refusal.{Refusal}
use Rattle.writer.proofs.DueLaws.{passed_begin}
use Rattle.cut_write_log.specs.WriteLog.{empty_log, Logging, logging, log_all}
use Rattle.cut_logged_calls.specs.LoggedCalls.{Left, lent_of, log_after, log_size}
use Rattle.cut_logged_calls.specs.declared.Made.{Made}
use Rattle.script_run.specs.Script.{begun_length, begins, calls_in, calls_of, script_limit}
use Rattle.script_run.specs.Running.{log_run, script_log, is_refused, refused_reply, begin_refused, accepted_log, begun_log, not_run, load_log, loaded_by, CallMade}
use Rattle.cut_write_log.specs.declared.WriteLog.{WriteLog}
use Rattle.std.proofs.Common.{Option, Some, None, Result, Ok, Err, is_err}
use Rattle.layout.specs.Refusals.{slot_limit, slot_least, key_limit}

-- Begin's answer is a refusal, or 0; a slot of more than 65,536 bytes is refused.
pub begin-accepted : (n ch : ℕ) (b : BeginLine) (lent : List ℕ) → is_refused (answer_of (begin_of n ch b.mode lent)) ≡ false
    → (begin_refusal n ch (length lent) ≡ 0) × (answer_of (begin_of n ch b.mode lent) ≡ accepted 0)
unfolding begin_of
begin-accepted n ch b lent h =
    by_cases (eqb (begin_refusal n ch (length lent)) 0)
    (λ q. (eqb-true _ 0 q, rw q))
    (λ q. apart (rw q at h))

pub small_slot : (slot ch lent : ℕ) → begin_refusal (begun_length slot) ch lent ≡ 0 → begun_length slot ≤ key_limit
small_slot slot ch lent h =
    let e = or_false (ltb slot_limit (begun_length slot)) (ltb (begun_length slot) slot_least) (passed_begin _ _ _ h).no7 in
    by_cases (ltb key_limit slot)
    (λ q. absurd (let l : slot_limit + 1 ≤ slot_limit = ltb-false slot_limit (slot_limit + 1) (rw q at e.0) in omega arith))
    (λ q. rw q (ltb-false key_limit slot q))

-- So an accepted begin is given the slot's own length.
pub own_length : (slot ch : ℕ) (b : BeginLine) (lent : List ℕ) → answer_of (begin_of (begun_length slot) ch b.mode lent) ≡ accepted 0 → begun_length slot ≡ slot
own_length slot ch b lent a =
    let small = small_slot slot ch (length lent) (begin-accepted (begun_length slot) ch b lent (ap is_refused a)).0 in
    by_cases (ltb key_limit slot) (λ q. let l : slot_limit + 1 ≤ key_limit = rw q at small in absurd (omega arith)) (λ q. rw q)

-- The begin of a script whose BEGN line says b.
abbrev begin_by : (n : ℕ) → BeginLine → Start → Outcome
begin_by n b st = begin_of n b.channels b.mode (lent_of st.lent)

-- An answer that is an error is a refusal.
refused_says : (v : Result Writes Refusal) → is_err v ≡ refused_reply (reply_says v)
refused_says (Err r) = refl
refused_says (Ok Writes.None) = refl
refused_says (Ok (Writes.One p)) = refl
refused_says (Ok (Writes.Three n p q r)) = refl

-- A refused call hands out no write.
refused_places : (r : Reply) → refused_reply r ≡ true → places_in r ≡ []
refused_places (Reply.Refused n) h = refl
refused_places Reply.NoWrite h = apart (sym h)
refused_places (Reply.OneWrite p) h = apart (sym h)
refused_places (Reply.ThreeWrites n p q r) h = apart (sym h)

refused_log : (o : Outcome) (g : Logging) → is_refused (answer_of o) ≡ true → log_after o g ≡ g
unfolding log_after log_all
refused_log o g h = rw (refused_places o.reply h)

-- What a script's calls leave.
abbrev Leaves : (slot : ℕ) → (s logged : List ℕ) → Option WriteLog → List ℕ → Type 0
Leaves slot s logged q k = (q ≡ accepted_log (begin_refused slot s) (begun_log slot s logged).log) × (k ≡ (begun_log slot s logged).bytes)

module _ (slot : ℕ) (logged : List ℕ) (m : Made) {n : ℕ} {s line : List ℕ} {st : Start} {b : BeginLine} {r : Bool} {after : List ℕ} (start : Starts s key_limit st)
    (el : line ≡ line_of (drop st.at s)) (eb : b ≡ begin_line line) (en : n ≡ begun_length slot) (made : CallMade (begin_by n b st) (logging empty_log logged) m after)
    (er : r ≡ is_err m.answer) where
  is-begins : begin_by n b st ≡ begins slot s
  unfolding begins
  is-begins = rw (en, eb, el, start.line, start.buffer)

  answer-is : r ≡ begin_refused slot s
  answer-is = er ∙ (refused_says m.answer ∙ rw (ap (λ (x : Left). x.reply) made.0) (ap (λ (x : Outcome). is_refused (answer_of x)) is-begins))

  pub loads_nothing : {q : Option WriteLog} → r ≡ true → q ≡ None → Leaves slot s logged q after
  unfolding begun_log
  loads_nothing t e =
      let a : begin_refused slot s ≡ true = sym answer-is ∙ t in
      (e ∙ rw a, made.1.0 ∙ rw (is-begins, refused_log (begins slot s) (logging empty_log logged) a, a))

  pub loads_all : (next : ℕ) {j : WriteLog} {k : List ℕ} → r ≡ false → drop next s ≡ lines_after (drop st.at s)
      → (j ≡ (log_run m.writer (logging m.log after) (calls_in st.lent (lines_of (drop next s)))).log)
      × (k ≡ (log_run m.writer (logging m.log after) (calls_in st.lent (lines_of (drop next s)))).bytes)
      → Leaves slot s logged (Some j) k
  unfolding begun_log script_log calls_of
  loads_all next f d h =
      let a : begin_refused slot s ≡ false = sym answer-is ∙ f in
      let e : log_run m.writer (logging m.log after) (calls_in st.lent (lines_of (drop next s))) ≡ script_log slot s logged =
      rw (ap (λ (x : Left). x.writer) made.0, ap (λ (x : Left). x.log) made.0, made.1.0, is-begins, d, start.rest, start.buffer) in
      (rw (h.0, a, e), h.1 ∙ rw (a, e))

-- ---- Too long a script, too little room

-- What loading it leaves.
abbrev Loads : (slot : ℕ) → (s logged : List ℕ) → Option WriteLog → List ℕ → Type 0
Loads slot s logged q k = (q ≡ loaded_by slot s logged) × (k ≡ (load_log slot s logged).bytes)

module _ (slot : ℕ) (s logged : List ℕ) {q : Option WriteLog} where
  loads_none : not_run s logged ≡ true → q ≡ None → Loads slot s logged q logged
  unfolding load_log
  loads_none t e = (e ∙ rw t, rw t)

  pub too_long : script_limit < length s → q ≡ None → Loads slot s logged q logged
  too_long h = loads_none (rw (lt-ltb script_limit (length s) h))

  pub too_little : length s ≤ script_limit → length logged < log_size → q ≡ None → Loads slot s logged q logged
  too_little h l = loads_none (rw (le-ltb script_limit (length s) h, lt-ltb (length logged) log_size l))

  pub enough : {k : List ℕ} → length s ≤ script_limit → log_size ≤ length logged → Leaves slot s logged q k → Loads slot s logged q k
  unfolding load_log
  enough h l e = let t : not_run s logged ≡ false = rw (le-ltb script_limit (length s) h, le-ltb (length logged) log_size l) in (e.0 ∙ rw t, e.1 ∙ rw t)
