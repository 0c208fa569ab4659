-- Answers put one after the other, line by line; the calls of some lines; portions.
use Prim.Native.Nat.{ℕ, ◌+◌, ◌*◌, ◌/◌, ◌<◌, ◌≤◌}
use mathlib.Core.Path.{◌≡◌, refl, sym, ap, ◌∙◌}
use mathlib.Core.Bool.{true, false}
use mathlib.Core.List.{List, [], ◌∷◌, ◌++◌, append_assoc, append-nil}
use native.Mathlib.Omega.{arith}
use lib.ListN.{length, take, drop, length-append, length-drop, drop_of_length-le}
use borrow.Author.Tests.{le-leb, lt-leb}
use Rattle.std.specs.Prelude.{Option, Some, None}
use Rattle.layout.specs.Choice.{pick}
use Rattle.layout.specs.Puts.{put_at}
use Rattle.layout.proofs.Cases.{by_cases, pick_true, pick_false}
use Rattle.layout.proofs.PutLaws.{Put, put_then, put_at-none, put_at-length}
use Rattle.key_lines.specs.Lines.{column, columns_bytes}
use Rattle.key_lines.specs.declared.Column.TheVariants.{Number}
use Rattle.key_lines.proofs.ColumnLaws.{column-length}
use Rattle.script_words.specs.Texts.{whole_line, lines_after, whole_lines, parted}
use Rattle.script_words.proofs.TextLaws.{parted-none, parted-next, parted-few, parted-whole}
use Rattle.frame_pool.specs.FramePool.{TakeReply, GiveReply, take_of, give_of}
use Rattle.frame_pool.specs.FrameLists.{pool_after}
use Rattle.frame_pool_lines.specs.PoolLines.{said_by, take_line, give_line, call_answer, after_said, CallAnswered}
use Rattle.frame_pool_lines.specs.PoolText.{answers_from, progress_from, answers_in, answered_in, then_calls, calls_said, LinesAreCalls, PortionsAnswered}
use Rattle.frame_pool_lines.specs.declared.says.SaidCall.{SaidCall}
use Rattle.frame_pool_lines.specs.declared.Progress.{Progress}
use Rattle.frame_pool_lines.specs.declared.LinesAnswered.{LinesAnswered}

-- ---- An answer has 16 bytes at most

number-line : (n : ℕ) → length (columns_bytes (Number n ∷ []) ++ (10 ∷ [])) ≡ 12
number-line n = length-append (column 11 n ++ []) (10 ∷ []) ∙ omega (arith, length-append (column 11 n) [], column-length 11 n)

take_short : (r : TakeReply) → length (take_line r) ≤ 16
take_short (TakeReply.Frame f) = omega (arith, number-line f)
take_short (TakeReply.Refused n) = omega (arith, number-line n)

give_short : (r : GiveReply) → length (give_line r) ≤ 16
give_short GiveReply.Given = omega arith
give_short (GiveReply.Refused n) = omega (arith, number-line n)

answer_short : (g : Progress) (s : Option SaidCall) → length (call_answer g s) ≤ 16
answer_short g (Some (SaidCall.Take d)) = take_short (take_of g.pool d).reply
answer_short g (Some (SaidCall.Give d f)) = give_short (give_of g.pool d f).reply
answer_short g None = omega (arith, number-line g.number)

lines_short : (g : Progress) (ls : List (List ℕ)) → length (answers_from g ls) ≤ 16 * length ls
unfolding answers_from
lines_short g [] = omega arith
lines_short g (l ∷ ls) =
    let x = call_answer g (said_by l) in
    let y = answers_from (after_said g (said_by l)) ls in
    by_cases g.ended
    (λ t. rw (pick_true [] (x ++ y) t) (omega arith))
    (λ t. rw (pick_false [] (x ++ y) t) (omega (arith, length-append x y, answer_short g (said_by l), lines_short (after_said g (said_by l)) ls)))

-- so the answers to a text have a room
pub answers-few : (g : Progress) (text : List ℕ) → length (answers_from g (parted text)) ≤ 16 * length text
answers-few g text = omega (arith, lines_short g (parted text), parted-few text)

-- ---- The lines of a text, one after the other

-- the answers to the lines before an offset are put
pub record Answering (g : Progress) (text before after : List ℕ) (p : Progress) (n at : ℕ) : Type 0 where
  pub room : 16 * length text ≤ length before
  pub few : at ≤ length text
  pub used : n ≤ 16 * at
  pub done : List ℕ
  pub put : Put before 0 n done after
  pub answers : answers_from g (parted text) ≡ done ++ answers_from p (parted (drop at text))
  pub progress : progress_from g (parted text) ≡ progress_from p (parted (drop at text))

-- what answer_lines is to give
abbrev pub Given : (g : Progress) (text before after : List ℕ) (r : LinesAnswered) → Type 0
Given g text before after r = (r ≡ answered_in (length before) g text) × (after ≡ put_at before 0 (answers_in (length before) g text))

pub little_room : (g : Progress) (text before : List ℕ) → length before / 16 < length text
    → Given g text before before (record { progress = g; length = 0 })
little_room g text before h = rw (lt-leb (length text) (length before / 16) h) (refl, sym (put_at-none before 0))

pub answering_none : (g : Progress) (text before : List ℕ) → length text ≤ length before / 16 → Answering g text before before g 0 0
answering_none g text before h =
    record {
      room = omega arith;
      few = omega arith;
      used = omega arith;
      done = [];
      put = record { size = refl; is = sym (put_at-none before 0) };
      answers = refl;
      progress = refl;
    }

module _ {g : Progress} {text before after : List ℕ} {p : Progress} {n at : ℕ} (a : Answering g text before after p n at) where
  pub answering_long : length after ≡ length before
  answering_long = ap length a.put.is ∙ put_at-length before 0 a.done

  -- no line is left, or none that is answered
  finished : answers_from p (parted (drop at text)) ≡ [] → progress_from p (parted (drop at text)) ≡ p
      → Given g text before after (record { progress = p; length = n })
  finished e f =
      let s : answers_from g (parted text) ≡ a.done = a.answers ∙ ap (λ (l : List ℕ). a.done ++ l) e ∙ append-nil a.done in
      rw (le-leb (length text) (length before / 16) (omega (arith, a.room)), s, a.progress, f, a.put.size) (refl, a.put.is)

  pub answering_all : length text ≤ at → Given g text before after (record { progress = p; length = n })
  unfolding answers_from progress_from
  answering_all h = finished (rw (drop_of_length-le text {i = at} h, parted-none)) (rw (drop_of_length-le text {i = at} h, parted-none))

  module _ (h : at < length text) where
    next-parted : parted (drop at text) ≡ whole_line (drop at text) ∷ parted (lines_after (drop at text))
    next-parted = parted-next (drop at text) (omega (arith, length-drop at text))

    pub answering_ended : p.ended ≡ true → Given g text before after (record { progress = p; length = n })
    unfolding answers_from progress_from
    answering_ended e = finished (rw (next-parted, e)) (rw (next-parted, e))

    answer-whole : (s : Option SaidCall) {b : List ℕ} {r : LinesAnswered} → CallAnswered p s after n b r → r.length ≡ length (call_answer p s)
    answer-whole s c =
        let few = answer_short p s in
        c.line.long ∙ rw (le-leb (n + length (call_answer p s)) (length after) (omega (arith, answering_long, a.room, a.used)))

    pub answering_fits : (s : Option SaidCall) {b : List ℕ} {r : LinesAnswered} → CallAnswered p s after n b r → n + r.length ≤ length before
    answering_fits s c = omega (arith, a.room, a.used, answer-whole s c, answer_short p s)

    pub answering_more : (l : List ℕ) (s : Option SaidCall) (next : ℕ) {b : List ℕ} {r : LinesAnswered} → p.ended ≡ false → l ≡ whole_line (drop at text) → s ≡ said_by l
        → CallAnswered p s after n b r → drop next text ≡ lines_after (drop at text) → (next ≤ length text) × (at < length text → at < next)
        → Answering g text before b r.progress (n + r.length) next
    unfolding answers_from progress_from
    answering_more l s next {b} {r} e f q c d k =
        let x = call_answer p s in
        let few = answer_short p s in
        let past : at < next = k.1 h in
        let long = answer-whole s c in
        let put = put_then a.put x (sym long) c.line.put (omega arith) (omega (arith, a.room, a.used)) in
        let said : s ≡ said_by (whole_line (drop at text)) = q ∙ ap said_by f in
        let rest = parted (lines_after (drop at text)) in
        let t = said_by (whole_line (drop at text)) in
        let given : answers_from p (parted (drop at text)) ≡ x ++ answers_from r.progress (parted (drop next text)) =
        ap (answers_from p) next-parted ∙ pick_false [] (call_answer p t ++ answers_from (after_said p t) rest) e
        ∙ ap (λ (u : Option SaidCall). call_answer p u ++ answers_from (after_said p u) rest) (sym said) ∙ ap (λ (z : Progress). x ++ answers_from z rest) (sym c.progress)
        ∙ ap (λ (m : List ℕ). x ++ answers_from r.progress (parted m)) (sym d) in
        let left : progress_from p (parted (drop at text)) ≡ progress_from r.progress (parted (drop next text)) =
        ap (progress_from p) next-parted ∙ pick_false p (progress_from (after_said p t) rest) e
        ∙ ap (λ (u : Option SaidCall). progress_from (after_said p u) rest) (sym said) ∙ ap (λ (z : Progress). progress_from z rest) (sym c.progress)
        ∙ ap (λ (m : List ℕ). progress_from r.progress (parted m)) (sym d) in
        record {
          room = a.room;
          few = k.0;
          used = omega (arith, a.used);
          done = a.done ++ x;
          put = put;
          answers = a.answers ∙ ap (λ (m : List ℕ). a.done ++ m) given ∙ sym (append_assoc a.done x (answers_from r.progress (parted (drop next text))));
          progress = a.progress ∙ left;
        }

-- ---- After a line that says no call

stays : (g : Progress) (ls : List (List ℕ)) → g.ended ≡ true → progress_from g ls ≡ g
unfolding progress_from
stays g [] e = refl
stays g (l ∷ ls) e = rw e

silent : (g : Progress) (ls : List (List ℕ)) → g.ended ≡ true → answers_from g ls ≡ []
unfolding answers_from
silent g [] e = refl
silent g (l ∷ ls) e = rw e

-- ---- The calls of some lines

after_pool : (g : Progress) (s : Option SaidCall) (ls : List (List ℕ)) → ((after_said g s).ended ≡ false → (progress_from (after_said g s) ls).pool ≡ pool_after (after_said g s).pool (calls_said ls))
    → (progress_from (after_said g s) ls).pool ≡ pool_after g.pool (then_calls s (calls_said ls))
unfolding pool_after
after_pool g (Some (SaidCall.Take d)) ls f = f refl
after_pool g (Some (SaidCall.Give d n)) ls f = f refl
after_pool g None ls f = ap (λ (q : Progress). q.pool) (stays (after_said g None) ls refl)

pub lines_calls : LinesAreCalls
unfolding LinesAreCalls progress_from calls_said pool_after
lines_calls g [] e = refl
lines_calls g (l ∷ ls) e =
    ap (λ (q : Progress). q.pool) (pick_false g (progress_from (after_said g (said_by l)) ls) e)
    ∙ after_pool g (said_by l) ls (lines_calls (after_said g (said_by l)) ls)

-- ---- Portions

progress_append : (g : Progress) (ls ms : List (List ℕ)) → progress_from g (ls ++ ms) ≡ progress_from (progress_from g ls) ms
unfolding progress_from
progress_append g [] ms = refl
progress_append g (l ∷ ls) ms =
    let h = after_said g (said_by l) in
    by_cases g.ended
    (λ t. pick_true g (progress_from h (ls ++ ms)) t ∙ sym (stays g ms t) ∙ ap (λ (q : Progress). progress_from q ms) (sym (pick_true g (progress_from h ls) t)))
    (λ t. pick_false g (progress_from h (ls ++ ms)) t ∙ progress_append h ls ms ∙ ap (λ (q : Progress). progress_from q ms) (sym (pick_false g (progress_from h ls) t)))

answers-append : (g : Progress) (ls ms : List (List ℕ)) → answers_from g (ls ++ ms) ≡ answers_from g ls ++ answers_from (progress_from g ls) ms
unfolding answers_from progress_from
answers-append g [] ms = refl
answers-append g (l ∷ ls) ms =
    let h = after_said g (said_by l) in
    let x = call_answer g (said_by l) in
    let first : List ℕ → List ℕ = λ xs. xs ++ answers_from (pick g.ended g (progress_from h ls)) ms in
    let left : Progress → List ℕ = λ q. answers_from q ms in
    by_cases g.ended
    (λ t.
    pick_true [] (x ++ answers_from h (ls ++ ms)) t ∙ sym (silent g ms t) ∙ ap left (sym (pick_true g (progress_from h ls) t))
    ∙ ap first (sym (pick_true [] (x ++ answers_from h ls) t)))
    (λ t.
    pick_false [] (x ++ answers_from h (ls ++ ms)) t ∙ ap (λ (l : List ℕ). x ++ l) (answers-append h ls ms)
    ∙ sym (append_assoc x (answers_from h ls) (answers_from (progress_from h ls) ms))
    ∙ ap (λ (q : Progress). (x ++ answers_from h ls) ++ answers_from q ms) (sym (pick_false g (progress_from h ls) t))
    ∙ ap first (sym (pick_false [] (x ++ answers_from h ls) t)))

pub portions : PortionsAnswered
portions =
    record {
      answers =
          λ g s t.
          let n = whole_lines s in
          ap (answers_from g) (parted-whole s t) ∙ answers-append g (parted (take n s)) (parted (drop n s ++ t));
      progress =
          λ g s t.
          let n = whole_lines s in
          ap (progress_from g) (parted-whole s t) ∙ progress_append g (parted (take n s)) (parted (drop n s ++ t));
    }
