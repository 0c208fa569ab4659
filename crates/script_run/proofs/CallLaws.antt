-- The call of a line.
use Prim.Native.Nat.{ℕ, ◌+◌, ◌≤◌}
use mathlib.Core.Path.{◌≡◌, refl, ap, sym, ◌∙◌}
use mathlib.Core.Bool.{true, false}
use mathlib.Core.List.{List, [], ◌∷◌}
use native.Mathlib.Omega.{arith}
use lib.ListN.{length, take, drop, get_or, length-take, length-drop}
use lib.Seq.{take_at}
use lib.Dec.{eqb, leb}
use borrow.Author.Tests.{le-leb}
use mathlib.Core.Logic.{◌⊎◌, inl, inr}
use Rattle.layout.specs.Choice.{pick, ◌or◌}
use Rattle.layout.specs.Puts.{put_at}
use Rattle.layout.proofs.Cases.{by_cases}
use Rattle.layout.proofs.PutLaws.{put_at_in, put_at-length}
use Rattle.script_words.specs.Texts.{uncommented, line_of}
use Rattle.script_words.specs.Data.{bytes_said}
use Rattle.script_words.proofs.DataLaws.{data_length_lem}
use Rattle.script_words.proofs.TextLaws.{word_short}
use Rattle.script_lines.specs.Lines.{is_kind, data_word, channel_block, cue_said, push_line, side_said}
use Rattle.script_lines.specs.declared.kinds.Kind.{Kind}
use Rattle.script_lines.specs.declared.kinds.Kind.TheVariants as Kinds
use Rattle.script_lines.specs.declared.lines.PushLine.{PushLine}
use Rattle.writer.specs.declared.ChannelBlock.{ChannelBlock}
use Rattle.script_lines.proofs.LineLaws.{not_kind}
use Rattle.script_groups.specs.Order.{sides_in}
use Rattle.writer.specs.Loading.{Call, cue, push, finish, cue_refusal, push_args}
use Rattle.writer.specs.Calls.{Replied, called, called_says, held, cue_of, push_of, finish_of, Good}
use Rattle.writer.specs.declared.Cue.{Cue}
use Rattle.writer.specs.declared.HpsWriter.{HpsWriter}
use Rattle.std.specs.Prelude.{Result}
use Rattle.layout.specs.declared.refusal.Refusal.{Refusal}
use Rattle.writer.specs.declared.Writes.{Writes}
use Rattle.writer.specs.declared.Called.{Called}
use Rattle.power_cut.specs.PowerCut.{step}
use Rattle.cut_write_log.specs.WriteLog.{Logging, logging, log_all}
use Rattle.cut_write_log.specs.declared.WriteLog.{WriteLog}
use Rattle.cut_logged_calls.specs.LoggedCalls.{lent_of, log_after, Left}
use Rattle.cut_logged_calls.specs.declared.Made.{Made}
use Rattle.script_run.specs.Script.{push_with, push_by, call_by, script_limit}
use Rattle.script_run.specs.Running.{log_run, CallMade, Makes}

-- ---- Data

line_short : (s : List ℕ) (at : ℕ) → length (line_of (drop at s)) ≤ length s
unfolding line_of uncommented
line_short s at = simp (length-take, length-drop) (omega arith)

pub line-fits : (s : List ℕ) (at : ℕ) {l : List ℕ} → l ≡ line_of (drop at s) → length s ≤ script_limit → length l ≤ script_limit
line-fits s at e h = rw e (omega (arith, line_short s at))

-- A line's data, put into room for it.
module _ (l z : List ℕ) {w b : List ℕ} {n : ℕ} (short : length l ≤ script_limit) (ew : w ≡ data_word l) (room : 524288 ≡ length z) (e : b ≡ put_at z 0 (bytes_said w))
    (m : n ≡ pick (leb (0 + length (bytes_said w)) (length z)) (length (bytes_said w)) 0) where
  fits : length (bytes_said w) ≤ length z
  fits = let e = data_length_lem w in let n : length w ≤ length l = rw ew (word_short l 23) in omega arith

  many : n ≡ length (bytes_said w)
  many = m ∙ rw (le-leb (0 + length (bytes_said w)) (length z) (omega (arith, fits)))

  pub data_there : n ≤ length b
  data_there = rw (e, put_at-length z 0 (bytes_said w), many) fits

  pub data_is : take n b ≡ bytes_said (data_word l)
  data_is =
      rw (e, put_at_in z 0 (bytes_said w) (omega (arith, fits)), ← ew)
      (take_at (bytes_said w) (drop (0 + length (bytes_said w)) z) n (sym many))

  pub data_many : n ≡ length (take n b)
  data_many = many ∙ rw ew (sym (ap length data_is))

-- ---- Push

module _ (w : HpsWriter) (lent : List ℕ) (g : Logging) (m : Made) {after : List ℕ} where
  pub sides_made : (p : PushLine) (left right : List ℕ) {x y : ChannelBlock} {d f : List ℕ} → x ≡ channel_block left → y ≡ channel_block right → d ≡ bytes_said (data_word left)
      → f ≡ bytes_said (data_word right)
      → CallMade (push_of w (push_args p.channels x y d f p.last) lent) g m after → CallMade (push_of w (push_with p left right) lent) g m after
  unfolding push_with side_said
  sides_made p left right ex ey ed ef h = rw (ex, ey, ed, ef) at h

  pub push_made : (l : List ℕ) (ls : List (List ℕ)) {p : PushLine} {left right : List ℕ} → p ≡ push_line l → left ≡ get_or (sides_in p.channels ls) 0 [] → right ≡ get_or (sides_in p.channels ls) 1 []
      → CallMade (push_of w (push_with p left right) lent) g m after → CallMade (push_of w (push_by l ls) lent) g m after
  unfolding push_by
  push_made l ls ep el er h = rw (el, er, ep) at h

-- ---- One call, or none

-- A cue hands out no write.
pub cue_log : (w : HpsWriter) (c : Cue) (g : Logging) → log_after (cue_of w c) g ≡ g
unfolding log_after log_all cue_of
cue_log w c g = by_cases (eqb (cue_refusal w.stream.blocks (held w) c) 0) (λ q. rw q) (λ q. rw q)

module _ {w : HpsWriter} where
  makes_one : {g : Logging} {m : Made} {after : List ℕ} (c : Call) → CallMade (step w c) g m after → Makes (c ∷ []) w g m after
  unfolding log_run
  makes_one c h = record { good = h.1.1; is = λ later. rw (ap (λ (x : Left). x.writer) h.0, ap (λ (x : Left). x.log) h.0, h.1.0) }

  pub makes_none : {j : WriteLog} {logged : List ℕ} (r : Result Writes Refusal) → Good w → Makes [] w (logging j logged) (record { writer = w; answer = r; log = j }) logged
  makes_none r g = record { good = g; is = λ later. refl }

  pub cue_makes : (c : Cue) {q : Called} {j : WriteLog} {logged : List ℕ} → called_says q ≡ called (cue_of w c) → Good q.writer
      → Makes (cue c ∷ []) w (logging j logged) (record { writer = q.writer; answer = q.answer; log = j }) logged
  unfolding log_run
  cue_makes c {j = j} {logged = logged} e g =
      record { good = g; is = λ later. rw (ap (λ (x : Replied). x.writer) e) (ap (λ (l : Logging). log_run (cue_of w c).writer l later) (sym (cue_log w c (logging j logged)))) }

-- ---- By kinds

-- A point, a loop or a range.
abbrev Cue-Kind : Kind → Type 0
Cue-Kind k = (k ≡ Kinds.Point) ⊎ ((k ≡ Kinds.Loop) ⊎ (k ≡ Kinds.Range))

a_cue : (k : Kind) → Cue-Kind k → (is_kind k Kinds.Push ≡ false) × ((is_kind k Kinds.Finish ≡ false) × (is_kind k Kinds.Point or is_kind k Kinds.Loop or is_kind k Kinds.Range ≡ true))
a_cue k (inl e) = rw e (refl, (refl, refl))
a_cue k (inr (inl e)) = rw e (refl, (refl, refl))
a_cue k (inr (inr e)) = rw e (refl, (refl, refl))

module _ (k : Kind) {w : HpsWriter} {g : Logging} {m : Made} {after : List ℕ} (l : List ℕ) (n : ℕ) (ls : List (List ℕ)) where
  pub make_push : k ≡ Kinds.Push → CallMade (push_of w (push_by l ls) (lent_of n)) g m after → Makes (call_by k l n ls) w g m after
  unfolding call_by
  make_push e h = rw e (makes_one (push (push_by l ls) (lent_of n)) h)

  pub make_finish : k ≡ Kinds.Finish → CallMade (finish_of w (lent_of n)) g m after → Makes (call_by k l n ls) w g m after
  unfolding call_by
  make_finish e h = rw e (makes_one (finish (lent_of n)) h)

  pub make_cue : Cue-Kind k → Makes (cue (cue_said l k) ∷ []) w g m after → Makes (call_by k l n ls) w g m after
  unfolding call_by
  make_cue o h = rw ((a_cue k o).0, (a_cue k o).1.0, (a_cue k o).1.1) h

  pub make_none : (k ≡ Kinds.Push → ⊥) → (k ≡ Kinds.Finish → ⊥) → (k ≡ Kinds.Point → ⊥) → (k ≡ Kinds.Loop → ⊥) → (k ≡ Kinds.Range → ⊥) → Makes [] w g m after
      → Makes (call_by k l n ls) w g m after
  unfolding call_by
  make_none p f o q r h = rw (not_kind k Kinds.Push p, not_kind k Kinds.Finish f, not_kind k Kinds.Point o, not_kind k Kinds.Loop q, not_kind k Kinds.Range r) h
