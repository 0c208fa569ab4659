-- A script's lines one after the other.
use Prim.Native.Nat.{ℕ, ◌<◌, ◌≤◌}
use mathlib.Core.Path.{◌≡◌, refl, ap, sym, ◌∙◌}
use mathlib.Core.List.{List}
use native.Mathlib.Omega.{arith}
use lib.ListN.{length, drop, length-drop, drop_of_length-le}
use Rattle.script_words.specs.Texts.{line_of, lines_after, lines_of}
use Rattle.script_words.proofs.TextLaws.{lines_none, lines_next}
use Rattle.script_lines.specs.Lines.{line_kind}
use Rattle.script_lines.specs.declared.kinds.Kind.{Kind}
use Rattle.script_groups.specs.Order.{lent_by}
use Rattle.writer.specs.Calls.{Good}
use Rattle.cut_write_log.specs.WriteLog.{Logging, logging}
use Rattle.cut_write_log.specs.declared.WriteLog.{WriteLog}
use Rattle.cut_logged_calls.specs.declared.Made.{Made}
use Rattle.script_run.specs.Script.{call_by, calls_in}
use Rattle.script_run.specs.Running.{log_run, Makes, all_of, Follows}
use Rattle.script_run.specs.declared.loading.Loading.{Loading}

pub follows : {s : List ℕ} {at : ℕ} (next : ℕ) {st : Loading} {logged line : List ℕ} {kind : Kind} {m : Made} {after : List ℕ} {lent : ℕ} (call : ℕ) → at < length s
    → drop next s ≡ lines_after (drop at s) → line ≡ line_of (drop at s) → kind ≡ line_kind line
    → Makes (call_by kind line st.lent (lines_of (drop next s))) st.writer (logging st.log logged) m after → lent ≡ lent_by kind line st.lent
    → Follows s at st logged (record { writer = m.writer; log = m.log; lent = lent; call = call }) after
unfolding all_of calls_in
follows {s} {at} next {st} {logged} {lent = lent} call h d l k made e =
    record {
      good = made.good;
      is =
          rw (lines_next (drop at s) (omega (arith, length-drop at s)), ← d, ← l, ← k, ← e)
          (made.is (calls_in lent (lines_of (drop next s))));
    }

-- The lines before this place are carried out.
pub record Walked (s : List ℕ) (from : ℕ) (start : Loading) (logged : List ℕ) (at : ℕ) (st : Loading) (bytes : List ℕ) : Type 0 where
  pub long : length bytes ≡ length logged
  pub good : Good st.writer
  pub is : all_of st bytes (lines_of (drop at s)) ≡ all_of start logged (lines_of (drop from s))

pub walked_none : {s : List ℕ} {from : ℕ} {start : Loading} {logged : List ℕ} → Good start.writer → Walked s from start logged from start logged
walked_none g = record { long = refl; good = g; is = refl }

module _ {s : List ℕ} {from : ℕ} {start : Loading} {logged : List ℕ} {at : ℕ} {st : Loading} {bytes : List ℕ} (w : Walked s from start logged at st bytes) where
  pub walked_more : {next : ℕ} {q : Loading} {after : List ℕ} → length after ≡ length bytes → drop next s ≡ lines_after (drop at s)
      → Follows s at st bytes q after → Walked s from start logged next q after
  walked_more n d f = record { long = n ∙ w.long; good = f.good; is = rw d (f.is ∙ w.is) }

  pub walked_all : length s ≤ at → logging st.log bytes ≡ all_of start logged (lines_of (drop from s))
  unfolding all_of calls_in log_run
  walked_all h =
      let e : all_of st bytes (lines_of (drop at s)) ≡ logging st.log bytes = rw (drop_of_length-le s {i = at} h, lines_none) in
      sym e ∙ w.is

-- What comes after begin.
pub rest-is : (m : Made) (lent call : ℕ) (logged : List ℕ) (ls : List (List ℕ)) {j : WriteLog} {after : List ℕ}
    → logging j after ≡ all_of (record { writer = m.writer; log = m.log; lent = lent; call = call }) logged ls
    → (j ≡ (log_run m.writer (logging m.log logged) (calls_in lent ls)).log)
    × (after ≡ (log_run m.writer (logging m.log logged) (calls_in lent ls)).bytes)
unfolding all_of
rest-is m lent call logged ls e = (ap (λ (g : Logging). g.log) e, ap (λ (g : Logging). g.bytes) e)
