-- What is answered, case by case.
use Prim.Native.Nat.{ℕ, ◌<◌, ◌≤◌}
use mathlib.Core.Path.{◌≡◌, refl, ap, sym, ◌∙◌}
use mathlib.Core.Bool.{false}
use mathlib.Core.List.{List, [], ◌∷◌}
use native.Mathlib.Omega.{arith}
use lib.ListN.{length, take, drop, replicate, length-drop, length-replicate}
use lib.Seq.{length-take-le}
use borrow.Author.Tests.{lt-ltb, le-ltb, ne_eqb}
use Rattle.layout.specs.Refusals.{key_limit}
use Rattle.layout.specs.Lists.{sum}
use Rattle.writer.specs.WritesAndCuttingRule.{Write, writes_in}
use Rattle.writer.specs.declared.Place.{Place}
use Rattle.script_lines.specs.Lines.{begin_line}
use Rattle.script_lines.specs.Whole.{wrong_line}
use Rattle.cut_write_log.specs.WriteLog as Logged
use Rattle.cut_write_log.specs.WriteLog.{logged_writes, sizes}
use Rattle.cut_write_log.specs.declared.WriteLog.{WriteLog}
use Rattle.cut_logged_calls.specs.LoggedCalls.{lent_of, log_size}
use Rattle.script_run.specs.Script.{begun_length, begin_line_in, begins, script_writes, script_limit}
use Rattle.script_run.specs.Running.{begin_refused, load_log, loaded_by}
use Rattle.std.specs.Prelude.{Some, None}
use Rattle.script_run.proofs.BeginLaws.{begin-accepted, small_slot, own_length}
use Rattle.script_run.proofs.LogLaws.{loaded_none, loaded_accepted, loaded_listed, loaded_is}
use Rattle.cut_answer.specs.Moments.{last_moment}
use Rattle.cut_answer.specs.Answers.{moment_answer, asked_answer, formed_answer, answered}
use Rattle.cut_answer.specs.declared.Ask.{Ask}
use Rattle.cut_answer.specs.declared.Answered.{Answered}
use Rattle.cut_answer.specs.declared.Answered.TheVariants.{LongScript, WrongLine, BeginRefused, PastTheLast, Listed}

-- ---- The last moment

writes_size : (ps : List Place) (logged : List ℕ) → sizes ps ≤ length logged → sum (λ (w : Write). length w.bytes) (writes_in ps logged) ≡ sizes ps
unfolding sum sizes writes_in
writes_size [] logged h = refl
writes_size (p ∷ ps) logged h =
    let a : length (take p.length logged) ≡ p.length = length-take-le p.length logged (omega arith) in
    let b = length-drop p.length logged in
    let r = writes_size ps (drop p.length logged) (omega arith) in
    omega arith

-- The bytes of all writes are logged, so the log's total is the last moment.
total_last : (n : ℕ) (s : List ℕ) (j : WriteLog) {logged : List ℕ} → Logged.Listed j logged → logged_writes j logged ≡ script_writes n s
    → j.total ≡ last_moment n s
unfolding last_moment logged_writes
total_last n s j {logged} l w =
    let b = l.bytes in
    let i = l.inside in
    b ∙ sym (writes_size (take j.count j.places) logged (omega arith)) ∙ ap (sum (λ (w : Write). length w.bytes)) w

module _ (n : ℕ) (s : List ℕ) (j : WriteLog) {logged : List ℕ} (l : Logged.Listed j logged) (w : logged_writes j logged ≡ script_writes n s)
    {m : ℕ} where
  pub past_last : j.total < m → PastTheLast j.total ≡ moment_answer (last_moment n s) m
  past_last h = let e = total_last n s j l w in rw (← e, lt-ltb j.total m h)

  pub not_past : m ≤ j.total → Listed ≡ moment_answer (last_moment n s) m
  not_past h = let e = total_last n s j l w in rw (← e, le-ltb j.total m h)

-- ---- Begin

-- A slot that is too long to be listed gets 7 from begin, so an accepted begin's is not.
begun-small : (slot : ℕ) (s : List ℕ) → begin_refused slot s ≡ false → slot ≤ key_limit
unfolding begins
begun-small slot s f =
    let b = begin_line (begin_line_in s).line in
    let lent = lent_of (begin_line_in s).lent in
    let a = begin-accepted (begun_length slot) b.channels b lent f in
    let own = own_length slot b.channels b lent a.1 in
    let small = small_slot slot b.channels (length lent) a.0 in
    omega arith

-- There is room for all writes: the script is answered by what was loaded.
module _ (slot : ℕ) (s : List ℕ) {room : List ℕ} (zeros : room ≡ replicate log_size 0) (few : length s ≤ script_limit) where
  enough : log_size ≤ length room
  enough = let n = ap length zeros ∙ length-replicate {A = ℕ} log_size 0 in omega arith

  pub told_refused : (ask : Ask) → None ≡ loaded_by slot s room → BeginRefused ≡ formed_answer slot s ask
  unfolding formed_answer
  told_refused ask t = rw (loaded_none slot s room few enough t)

  module _ {j : WriteLog} {after : List ℕ} (made : Some j ≡ loaded_by slot s room) (bytes : after ≡ (load_log slot s room).bytes) where
    accepted : begin_refused slot s ≡ false
    accepted = loaded_accepted slot s room few enough made bytes

    pub all_logged : Logged.Listed j after × (logged_writes j after ≡ script_writes slot s)
    all_logged = (loaded_listed slot s room few enough made bytes, loaded_is slot s room few enough made bytes)

    pub small : slot ≤ key_limit
    small = begun-small slot s accepted

    pub told_shown : (ask : Ask) {r : Answered} → r ≡ asked_answer (last_moment slot s) ask → r ≡ formed_answer slot s ask
    unfolding formed_answer
    told_shown ask e = e ∙ rw accepted

-- ---- Case by case

module _ (e s : List ℕ) (ask : Ask) where
  pub long_script : script_limit < length s → LongScript ≡ answered e s ask
  unfolding answered
  long_script h = rw (lt-ltb script_limit (length s) h)

  module _ (few : length s ≤ script_limit) where
    pub wrong_line_lem : {n : ℕ} → n ≡ wrong_line s → 0 < n → WrongLine n ≡ answered e s ask
    unfolding answered
    wrong_line_lem {n} i h = rw (← i, le-ltb script_limit (length s) few, ne_eqb n 0 (λ z. omega arith))

    pub well_formed : {r : Answered} → 0 ≡ wrong_line s → r ≡ formed_answer (length e) s ask → r ≡ answered e s ask
    unfolding answered
    well_formed i q = q ∙ rw (le-ltb script_limit (length s) few, ← i)
