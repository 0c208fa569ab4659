-- Runs of moments with the same listing.
use Prim.Native.Nat.{ℕ, suc, ◌+◌, ◌-◌, ◌<◌, ◌≤◌}
use mathlib.Core.Path.{◌≡◌, refl, ap, sym, ◌∙◌}
use mathlib.Core.Bool.{Bool, true, false}
use mathlib.Core.List.{List, [], append-nil}
use mathlib.Core.Logic.{◌⊎◌, inl, inr}
use native.Mathlib.Omega.{arith}
use native.Mathlib.Nat.{zero-add}
use native.Mathlib.Numerals.{add-one}
use lib.ListN.{length, take, drop}
use lib.Seq.{take_at, drop-length}
use lib.Dec.{eqb}
use borrow.Author.Tests.{eqb-true, eqb-false}
use Rattle.layout.specs.Puts.{put_at}
use Rattle.layout.specs.Lists.{same}
use Rattle.layout.proofs.Cases.{by_cases}
use Rattle.layout.proofs.ListLaws.{same_equal, same_not}
use Rattle.layout.proofs.PutLaws.{put_at_in, put_at-length}
use Rattle.writer.specs.WritesAndCuttingRule.{Write, writes_in}
use Rattle.power_cut_moments.specs.Moments.{slot_at, next_byte}
use Rattle.power_cut_moments.proofs.MomentLaws.{slot_start, next_slot}
use Rattle.key_listing.specs.MarkingKey.{listing}
use Rattle.cut_write_log.specs.WriteLog.{logged_writes}
use Rattle.cut_write_log.specs.declared.WriteLog.{WriteLog}
use Rattle.script_run.specs.Script.{script_writes}
use Rattle.cut_answer.specs.Moments.{MomentRun, RunEnds}

-- ---- Copies of a slot

-- A slot put into a buffer as long as it is.
pub copied : (b s : List ℕ) → length b ≡ length s → put_at b 0 s ≡ s
copied b s h =
    let n : drop (0 + length s) b ≡ [] = rw (zero-add, ← h) (drop-length b) in
    put_at_in b 0 s (omega arith) ∙ rw n (append-nil s)

-- Put into a longer one: its first bytes.
module _ (b s : List ℕ) {c : List ℕ} (h : length s ≤ length b) (e : c ≡ put_at b 0 s) where
  pub copy_first : take (length s) c ≡ s
  copy_first = rw (e, put_at_in b 0 s (omega arith)) (take_at s (drop (0 + length s) b) (length s) refl)

  pub copy_length : length s ≡ length (take (length s) c)
  copy_length = sym (ap length copy_first)

-- ---- One run

-- From the run's start to this moment the listing is the first one's.
pub record Going (start first : List ℕ) (ws : List Write) (from total : ℕ) (slot : List ℕ) (m : ℕ) : Type 0 where
  pub long : length slot ≡ length start
  pub low : from ≤ m
  pub high : m ≤ total
  pub here : (s : List ℕ) → start ≡ slot_at s ws from → slot ≡ slot_at s ws m
  pub same : (s : List ℕ) → start ≡ slot_at s ws from → first ≡ start → (k : ℕ) → from ≤ k → k ≤ m → listing (slot_at s ws k) ≡ listing first

pub going_none : {start first : List ℕ} {ws : List Write} {from total : ℕ} → from ≤ total → Going start first ws from total start from
going_none {from = from} h =
    record {
      long = refl;
      low = omega arith;
      high = h;
      here = λ s e. e;
      same = λ s e f k a b. let q : k ≡ from = omega arith in rw (q, ← e, f);
    }

module _ {start first : List ℕ} {ws : List Write} {from total : ℕ} {slot : List ℕ} {m : ℕ} (g : Going start first ws from total slot m) where
  pub run_all : total ≤ m → {next : ℕ} → next ≡ total + 1 → (s : List ℕ) → start ≡ slot_at s ws from → first ≡ start → RunEnds s ws from total (listing first) next slot
  run_all h {next} z s e f =
      record {
        later = omega (arith, g.low, g.high);
        same = λ k a b. g.same s e f k a (omega arith);
        ends = inl (z ∙ add-one total);
      }

  module _ {after : List ℕ} (l : m < total) (n : length after ≡ length slot) (byte : after ≡ next_byte slot ws m) where
    step : (s : List ℕ) → slot ≡ slot_at s ws m → after ≡ slot_at s ws (m + 1)
    step s e = byte ∙ rw e (next_slot s ws m)

    pub going_more : {b : Bool} → b ≡ true → b ≡ same (listing first) (listing after) → Going start first ws from total after (m + 1)
    going_more y q =
        let alike = same_equal (listing first) (listing after) (sym q ∙ y) in
        record {
          long = n ∙ g.long;
          low = omega (arith, g.low);
          high = omega arith;
          here = λ s e. step s (g.here s e);
          same = λ s e f k a c.
              by_cases (eqb k (m + 1))
              (λ t. let i = eqb-true k (m + 1) t in rw (i, ← step s (g.here s e)) (sym alike))
              (λ t. let i = eqb-false k (m + 1) t in g.same s e f k a (omega arith));
        }

    pub run_other : {b : Bool} → b ≡ false → b ≡ same (listing first) (listing after) → (s : List ℕ) → start ≡ slot_at s ws from → first ≡ start
        → RunEnds s ws from total (listing first) (m + 1) after
    run_other y q s e f =
        record {
          later = omega (arith, g.low);
          same = λ k a c. g.same s e f k a (omega arith);
          ends = inr (omega arith, (step s (g.here s e), λ i. same_not (sym q ∙ y) (sym i)));
        }

-- The writes that are logged are those of the first places.
pub to_log : (j : WriteLog) (logged : List ℕ) {start first : List ℕ} {from total : ℕ} {lines : List ℕ} {next : ℕ} {slot : List ℕ}
    → ((s : List ℕ) → start ≡ slot_at s (writes_in (take j.count j.places) logged) from → first ≡ start → RunEnds s (writes_in (take j.count j.places) logged) from total lines next slot)
    → (s : List ℕ) → start ≡ slot_at s (logged_writes j logged) from → first ≡ start → RunEnds s (logged_writes j logged) from total lines next slot
unfolding logged_writes
to_log j logged h = h

pub slot_log : (j : WriteLog) (logged : List ℕ) {earlier slot after : List ℕ} (m : ℕ) {ws : List Write} → slot ≡ earlier → logged_writes j logged ≡ ws
    → after ≡ slot_at slot (writes_in (take j.count j.places) logged) m → after ≡ slot_at earlier ws m
unfolding logged_writes
slot_log j logged m e w a = a ∙ rw (e, w)

-- ---- All runs

-- The next run starts at this moment, and both buffers have the slot then.
pub record Showing (earlier : List ℕ) (ws : List Write) (total : ℕ) (slot first : List ℕ) (from : ℕ) : Type 0 where
  pub long : length slot ≡ length earlier
  pub copy : length first ≡ length earlier
  pub below : from ≤ total + 1
  pub here : from ≤ total → slot ≡ slot_at earlier ws from
  pub same : from ≤ total → first ≡ slot

pub showing_none : {earlier slot first : List ℕ} {ws : List Write} {total : ℕ} → slot ≡ earlier → first ≡ earlier → Showing earlier ws total slot first 0
showing_none {earlier} {slot} {first} {ws} e f =
    record {
      long = ap length e;
      copy = ap length f;
      below = omega arith;
      here = λ h. e ∙ sym (slot_start earlier ws);
      same = λ h. f ∙ sym e;
    }

-- One run of a script's moments.
pub is_run : {earlier : List ℕ} (text : List ℕ) {lines : List ℕ} {ws : List Write} {from total next : ℕ} {slot : List ℕ} → ws ≡ script_writes (length earlier) text
    → RunEnds earlier ws from total lines next slot → MomentRun earlier text from (next - 1) lines
unfolding MomentRun
is_run text w r k a b = rw (← w) (r.same k a (omega (arith, r.later)))

module _ {earlier : List ℕ} {ws : List Write} {total : ℕ} {slot first : List ℕ} {from : ℕ} (g : Showing earlier ws total slot first from) where
  pub showing_more : {lines after copy : List ℕ} {next : ℕ} → length after ≡ length slot → RunEnds earlier ws from total lines next after → copy ≡ put_at first 0 after
      → Showing earlier ws total after copy next
  showing_more {lines} {after} {copy} {next} n r e =
      let m : length first ≡ length after = g.copy ∙ sym g.long ∙ sym n in
      record {
        long = n ∙ g.long;
        copy = ap length e ∙ put_at-length first 0 after ∙ g.copy;
        below = at_most r.ends;
        here = λ h. there r.ends h;
        same = λ h. e ∙ copied first after m;
      }
    where
      at_most : (next ≡ suc total) ⊎ ((next ≤ total) × ((after ≡ slot_at earlier ws next) × (listing after ≡ lines → ⊥))) → next ≤ total + 1
      at_most (inl q) = omega arith
      at_most (inr q) = omega (arith, q.0)

      there : (next ≡ suc total) ⊎ ((next ≤ total) × ((after ≡ slot_at earlier ws next) × (listing after ≡ lines → ⊥))) → next ≤ total → after ≡ slot_at earlier ws next
      there (inl q) h = absurd (omega arith)
      there (inr q) h = q.1.0
