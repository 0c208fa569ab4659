-- A script's calls carried out one after the other.
use Rattle.std.specs.Prelude.{ℕ, ◌≡◌, Bool, true, false, List, [], ◌∷◌, ◌++◌, length, drop, ltb, Option, Some, None}
use Rattle.layout.specs.Choice.{pick, ◌or◌}
use Rattle.script_words.specs.Texts.{lines_after, lines_of}
use Rattle.writer.specs.Loading.{Call, Answer, refused, accepted}
use Rattle.writer.specs.Calls.{Outcome, Reply, answer_in, Good, answer_of}
use Rattle.writer.specs.declared.HpsWriter.{HpsWriter}
use Rattle.power_cut.specs.PowerCut.{step}
use Rattle.cut_write_log.specs.WriteLog.{empty_log, Logging, logging}
use Rattle.cut_write_log.specs.declared.WriteLog.{WriteLog}
use Rattle.cut_logged_calls.specs.LoggedCalls.{log_size, log_after, made_by, made_says}
use Rattle.cut_logged_calls.specs.declared.Made.{Made}
use Rattle.script_run.specs.Script.{calls_in, begins, calls_of, script_limit}
use Rattle.script_run.specs.declared.loading.Loading.{Loading}

-- ---- A script's log

-- The log after calls, one after the other.
unfoldable pub log_run : HpsWriter → Logging → List Call → Logging
log_run w g [] = g
log_run w g (c ∷ cs) = log_run (step w c).writer (log_after (step w c) g) cs

-- The log of begin and all calls after it.
unfoldable pub script_log : (slot : ℕ) → (script logged : List ℕ) → Logging
script_log n s logged = log_run (begins n s).writer (log_after (begins n s) (logging empty_log logged)) (calls_of s)

-- Is an answer a refusal?
abbrev pub is_refused : Answer → Bool
is_refused (refused n) = true
is_refused (accepted n) = false

abbrev pub refused_reply : Reply → Bool
refused_reply r = is_refused (answer_in r)

abbrev pub begin_refused : (slot : ℕ) → (script : List ℕ) → Bool
begin_refused n s = is_refused (answer_of (begins n s))

-- "If begin is refused, its STOP line is the whole answer": nothing is logged then.
unfoldable pub begun_log : (slot : ℕ) → (script logged : List ℕ) → Logging
begun_log n s logged = pick (begin_refused n s) (logging empty_log logged) (script_log n s logged)

-- A script that is too long, or too little room for its writes: no call is made.
abbrev pub not_run : (script logged : List ℕ) → Bool
not_run s logged = ltb script_limit (length s) or ltb (length logged) log_size

-- What a script leaves logged.
unfoldable pub load_log : (slot : ℕ) → (script logged : List ℕ) → Logging
load_log n s logged = pick (not_run s logged) (logging empty_log logged) (begun_log n s logged)

-- The log of a script that is accepted.
abbrev pub accepted_log : (refused : Bool) → WriteLog → Option WriteLog
accepted_log r j = pick r None (Some j)

-- What loading a script gives: no log where no call is made, and where begin is refused.
abbrev pub loaded_by : (slot : ℕ) → (script logged : List ℕ) → Option WriteLog
loaded_by n s logged = accepted_log (not_run s logged or begin_refused n s) (load_log n s logged).log

-- ---- Calls and lines on the way

-- A call leaves its outcome's record and reply, and is logged.
abbrev pub CallMade : Outcome → Logging → Made → (after : List ℕ) → Type 0
CallMade o g m after = (made_says m ≡ made_by o g) × ((after ≡ (log_after o g).bytes) × Good m.writer)

-- After these calls: the log of the calls after them is what was to come before them.
pub record Makes (calls : List Call) (w : HpsWriter) (g : Logging) (m : Made) (after : List ℕ) : Type 0 where
  pub good : Good m.writer
  pub is : (later : List Call) → log_run m.writer (logging m.log after) later ≡ log_run w g (calls ++ later)

-- The log once the lines to come are carried out.
unfoldable pub all_of : Loading → (logged : List ℕ) → (lines : List (List ℕ)) → Logging
all_of st logged ls = log_run st.writer (logging st.log logged) (calls_in st.lent ls)

-- A line's calls are carried out.
pub record Follows (s : List ℕ) (at : ℕ) (st : Loading) (logged : List ℕ) (q : Loading) (after : List ℕ) : Type 0 where
  pub good : Good q.writer
  pub is : all_of q after (lines_of (lines_after (drop at s))) ≡ all_of st logged (lines_of (drop at s))
