-- What `cut` answers to a script on an earlier slot, by its cases.
use Rattle.std.specs.Prelude.{ℕ, not, List, length, ltb, eqb}
use Rattle.layout.specs.Choice.{pick}
use Rattle.script_lines.specs.Whole.{wrong_line}
use Rattle.script_run.specs.Script.{script_limit}
use Rattle.script_run.specs.Running.{begin_refused}
use Rattle.cut_answer.specs.Moments.{last_moment}
use Rattle.cut_answer.specs.declared.Ask.{Ask}
use Rattle.cut_answer.specs.declared.Ask.TheVariants.{All, Moment}
use Rattle.cut_answer.specs.declared.Answered.{Answered}
use Rattle.cut_answer.specs.declared.Answered.TheVariants.{LongScript, WrongLine, BeginRefused, PastTheLast, Listed}

-- "a moment past the last (the line names the last one)", or the listing of one moment
abbrev pub moment_answer : (last moment : ℕ) → Answered
moment_answer last m = pick (ltb last m) (PastTheLast last) Listed

-- The listing of every moment, or what is answered to MOMENT.
unfoldable pub asked_answer : (last : ℕ) → Ask → Answered
asked_answer last All = Listed
asked_answer last (Moment m) = moment_answer last m

-- The answer to a well-formed script: "A refused begin's `STOP` line is the whole answer, with MOMENT too."
unfoldable pub formed_answer : (slot : ℕ) → (script : List ℕ) → Ask → Answered
formed_answer n s ask = pick (begin_refused n s) BeginRefused (asked_answer (last_moment n s) ask)

-- "A script that is not well formed is answered by `LINE` and the number of its first wrong line, before any call is made."
-- One that is too long is not looked at.
unfoldable pub answered : (earlier script : List ℕ) → Ask → Answered
answered e s ask =
    pick (ltb script_limit (length s)) LongScript
    (pick (not (eqb (wrong_line s) 0)) (WrongLine (wrong_line s))
    (formed_answer (length e) s ask))
