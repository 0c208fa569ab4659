-- Writes logged one after the other.
use Prim.Native.Nat.{ℕ, ◌+◌, ◌-◌, ◌<◌, ◌≤◌}
use mathlib.Core.Path.{◌≡◌, refl, ap, sym, ◌∙◌}
use mathlib.Core.List.{List, [], ◌∷◌, ◌++◌, append_assoc, append-nil}
use native.Mathlib.Omega.{arith}
use native.Mathlib.Nat.{zero-add}
use native.Mathlib.Numerals.{add-one}
use lib.ListN.{length, take, drop, set, length-append, length-drop, length-set, length-replicate, take-append-drop}
use lib.Seq.{take-suc-set, length-take-le, take-append-le, drop-append-le, take_at, drop_at, drop-drop}
use lib.Dec.{ltb, leb}
use borrow.Author.Tests.{lt-ltb, le-ltb, le-leb, lt-leb, ltb-true, leb-true}
use Rattle.layout.specs.Lists.{sum, put}
use Rattle.layout.specs.Puts.{put_at}
use Rattle.layout.proofs.Cases.{by_cases, and_true}
use Rattle.layout.proofs.PutLaws.{put_at_in, put_at-length, put_at-none, put_at-next}
use Rattle.writer.specs.WritesAndCuttingRule.{Write, write, handed, writes_in, most_writes}
use Rattle.writer.specs.declared.Place.{Place}
use Rattle.cut_write_log.specs.WriteLog.{no_place, empty_log, Logging, room_for, with_write, log_one, log_all, logged_writes, sizes, Listed}
use Rattle.cut_write_log.specs.declared.WriteLog.{WriteLog}

-- Room for writes more, whose bytes lie in a lent buffer from its start.
pub record Room (j : WriteLog) (logged lent : List ℕ) (ps : List Place) : Type 0 where
  pub few : j.count + length ps ≤ most_writes
  pub handed : sizes ps ≤ length lent
  pub space : j.total + sizes ps ≤ length logged

-- They are logged after the others, and their bytes are put after those of the others.
pub record Logs (j : WriteLog) (logged lent : List ℕ) (ps : List Place) (q : WriteLog) (after : List ℕ) : Type 0 where
  pub count : q.count ≡ j.count + length ps
  pub total : q.total ≡ j.total + sizes ps
  pub put : after ≡ put_at logged j.total (handed (writes_in ps lent))
  pub listed : Listed q after
  pub is : logged_writes q after ≡ logged_writes j logged ++ writes_in ps lent

-- ---- Room for a write more, or none

module _ (g : Logging) (lent : List ℕ) (from : ℕ) (p : Place) where
  one_logged : g.log.count < most_writes → from + p.length ≤ length lent → g.log.total + p.length ≤ length g.bytes
      → log_one g lent from p ≡ record { log = with_write g.log p; bytes = put_at g.bytes g.log.total (take p.length (drop from lent)) }
  unfolding log_one
  one_logged few here room =
      rw (lt-ltb g.log.count most_writes few, le-leb (from + p.length) (length lent) here, le-leb (g.log.total + p.length) (length g.bytes) room)

  pub is_logged : {b : List ℕ} → g.log.count < most_writes → from + p.length ≤ length lent → g.log.total + p.length ≤ length g.bytes
      → b ≡ put_at g.bytes g.log.total (take (from + p.length - from) (drop from lent)) → record { log = with_write g.log p; bytes = b } ≡ log_one g lent from p
  is_logged few here room e = let n : from + p.length - from ≡ p.length = omega arith in rw (e, n) (sym (one_logged few here room))

  pub log_full : most_writes ≤ g.log.count → g ≡ log_one g lent from p
  unfolding log_one
  log_full h = rw (le-ltb g.log.count most_writes h)

  pub not_lent : length lent < from + p.length → g ≡ log_one g lent from p
  unfolding log_one
  not_lent h = by_cases (ltb g.log.count most_writes) (λ t. rw (t, lt-leb (from + p.length) (length lent) h)) (λ t. rw t)

  pub bytes_full : length g.bytes < g.log.total + p.length → g ≡ log_one g lent from p
  unfolding log_one
  bytes_full h =
      by_cases (ltb g.log.count most_writes)
      (λ t. by_cases (leb (from + p.length) (length lent)) (λ u. rw (t, u, lt-leb (g.log.total + p.length) (length g.bytes) h)) (λ u. rw (t, u)))
      (λ t. rw t)

-- ---- A reply's writes

module _ (g : Logging) (lent : List ℕ) where
  pub three_logged : {g₁ g₂ g₃ : Logging} (p q s : Place) → g₁ ≡ log_one g lent 0 p → g₂ ≡ log_one g₁ lent p.length q → g₃ ≡ log_one g₂ lent (p.length + q.length) s
      → g₃ ≡ log_all g lent 0 (p ∷ q ∷ s ∷ [])
  unfolding log_all
  three_logged p q s e₁ e₂ e₃ = e₃ ∙ rw (e₂, e₁, zero-add)

  -- The bytes of the second do not lie in the lent buffer, so those of the third do not.
  pub first_logged : {g₁ : Logging} (p q s : Place) → length lent < p.length + q.length → g₁ ≡ log_one g lent 0 p → g₁ ≡ log_all g lent 0 (p ∷ q ∷ s ∷ [])
  unfolding log_all
  first_logged {g₁} p q s h e =
      rw (← e, zero-add, ← not_lent g₁ lent p.length q h) (not_lent g₁ lent (p.length + q.length) s (omega arith))

  module _ {rs : List Place} where
    pub none_logged : rs ≡ [] → (g.log ≡ (log_all g lent 0 rs).log) × (g.bytes ≡ (log_all g lent 0 rs).bytes)
    unfolding log_all
    none_logged e = (rw e, rw e)

    pub one-write : {q : Logging} {p : Place} → rs ≡ p ∷ [] → q ≡ log_one g lent 0 p → (q.log ≡ (log_all g lent 0 rs).log) × (q.bytes ≡ (log_all g lent 0 rs).bytes)
    unfolding log_all
    one-write e h = (rw (e, h), rw (e, h))

    pub all_logged : {q : Logging} {ps : List Place} → rs ≡ ps → q ≡ log_all g lent 0 ps → (q.log ≡ (log_all g lent 0 rs).log) × (q.bytes ≡ (log_all g lent 0 rs).bytes)
    all_logged e h = (rw (e, h), rw (e, h))

-- ---- Lists of writes

-- Writes more have the bytes after those of the others.
writes_join : (ps qs : List Place) (buf : List ℕ) → writes_in (ps ++ qs) buf ≡ writes_in ps buf ++ writes_in qs (drop (sizes ps) buf)
unfolding writes_in sizes sum
writes_join [] qs buf = refl
writes_join (p ∷ ps) qs buf = ap (λ (ws : List Write). write p.offset (take p.length buf) ∷ ws) (writes_join ps qs (drop p.length buf) ∙ rw drop-drop)

sizes_join : (ps qs : List Place) → sizes (ps ++ qs) ≡ sizes ps + sizes qs
unfolding sizes sum
sizes_join [] qs = omega arith
sizes_join (p ∷ ps) qs = omega (arith, sizes_join ps qs)

-- Only the bytes of the writes count.
writes_front : (ps : List Place) (xs ys : List ℕ) → sizes ps ≤ length xs → writes_in ps (xs ++ ys) ≡ writes_in ps xs
unfolding writes_in sizes sum
writes_front [] xs ys h = refl
writes_front (p ∷ ps) xs ys h =
    let few : p.length ≤ length xs = omega arith in
    rw (take-append-le p.length xs ys few, drop-append-le p.length xs ys few, writes_front ps (drop p.length xs) ys (omega (arith, length-drop p.length xs)))

-- The bytes of writes that lie in a lent buffer.
writes-handed : (ps : List Place) (lent : List ℕ) → sizes ps ≤ length lent → length (handed (writes_in ps lent)) ≡ sizes ps
unfolding handed writes_in sizes sum
writes-handed [] lent h = refl
writes-handed (p ∷ ps) lent h =
    let rest = drop p.length lent in
    let few : p.length ≤ length lent = omega arith in
    omega (arith, length-append (take p.length lent) (handed (writes_in ps rest)), length-take-le p.length lent few, writes-handed ps rest (omega (arith, length-drop p.length lent)))

handed_join : (vs ws : List Write) → handed (vs ++ ws) ≡ handed vs ++ handed ws
unfolding handed
handed_join [] ws = refl
handed_join (v ∷ vs) ws = rw (handed_join vs ws, append_assoc)

-- ---- A write more

pub none-listed : (logged : List ℕ) → Listed empty_log logged
unfolding sizes sum
none-listed logged = record { few = omega arith; room = length-replicate most_writes no_place; bytes = refl; inside = omega arith }

module _ {j : WriteLog} {logged : List ℕ} (l : Listed j logged) (p : Place) (bs : List ℕ) (few : j.count < most_writes) (size : length bs ≡ p.length)
    (room : j.total + p.length ≤ length logged) where
  former : List Place
  former = take j.count j.places

  after : List ℕ
  after = put logged j.total bs

  fore : List ℕ
  fore = take j.total logged

  fore_length : length fore ≡ j.total
  unfolding fore
  fore_length = length-take-le j.total logged l.inside

  with_it : take (j.count + 1) (set j.places j.count p) ≡ former ++ (p ∷ [])
  unfolding former
  with_it = let r = l.room in rw add-one (take-suc-set j.places j.count p (omega arith))

  logged_front : writes_in former after ≡ writes_in former logged
  unfolding former after fore
  logged_front =
      let s : sizes former ≤ length fore = omega (arith, l.bytes, fore_length) in
      rw append_assoc
      (writes_front former fore (bs ++ drop (j.total + length bs) logged) s ∙ sym (writes_front former fore (drop j.total logged) s) ∙ rw (take-append-drop j.total logged))

  its_bytes : take p.length (drop j.total after) ≡ bs
  unfolding after fore
  its_bytes =
      rw (append_assoc, drop_at fore (bs ++ drop (j.total + length bs) logged) j.total fore_length)
      (take_at bs (drop (j.total + length bs) logged) p.length size)

  pub listed-one : {b : List ℕ} → b ≡ put_at logged j.total bs → Listed (with_write j p) b
  unfolding former sizes sum
  listed-one {b} e =
      let n : length b ≡ length logged = ap length e ∙ put_at-length logged j.total bs in
      record {
        few = omega arith;
        room = length-set j.places j.count p ∙ l.room;
        bytes = rw with_it (omega (arith, sizes_join former (p ∷ []), l.bytes));
        inside = omega arith;
      }

  pub logs_one : {b lent : List ℕ} → b ≡ put_at logged j.total bs → take p.length lent ≡ bs
      → Logs j logged lent (p ∷ []) (with_write j p) b
  unfolding logged_writes former after sizes sum handed writes_in
  logs_one {b} {lent} e f =
      let i : b ≡ after = e ∙ put_at_in logged j.total bs (omega arith) in
      record {
        count = refl;
        total = omega arith;
        put = e ∙ ap (put_at logged j.total) (sym (append-nil bs)) ∙ rw f;
        listed = listed-one e;
        is = rw (with_it, i, writes_join former (p ∷ []) after, ← l.bytes, its_bytes, logged_front, f);
      }

-- The bytes of a lent buffer from a place on.
module _ (g : Logging) (lent : List ℕ) (from : ℕ) (p : Place) (l : Listed g.log g.bytes) where
  part_length : from + p.length ≤ length lent → length (take p.length (drop from lent)) ≡ p.length
  part_length here = length-take-le p.length (drop from lent) (omega (arith, length-drop from lent))

  listed_more : Listed (log_one g lent from p).log (log_one g lent from p).bytes
  unfolding log_one
  listed_more =
      by_cases (room_for g lent from p)
      (λ t.
      let a = and_true (ltb g.log.count most_writes) _ t in
      let b = and_true (leb (from + p.length) (length lent)) _ a.1 in
      let here = leb-true (from + p.length) (length lent) b.0 in
      rw t (listed-one l p _ (ltb-true g.log.count most_writes a.0) (part_length here) (leb-true (g.log.total + p.length) (length g.bytes) b.1) refl))
      (λ t. rw t l)

  logs_more : g.log.count < most_writes → from + p.length ≤ length lent → g.log.total + p.length ≤ length g.bytes
      → Logs g.log g.bytes (drop from lent) (p ∷ []) (log_one g lent from p).log (log_one g lent from p).bytes
  logs_more few here room = rw (one_logged g lent from p few here room) (logs_one l p _ few (part_length here) room refl refl)

-- ---- One after the other

pub logs_long : {j q : WriteLog} {logged lent after : List ℕ} {ps : List Place} → Logs j logged lent ps q after → length after ≡ length logged
logs_long {j} {logged = logged} h = ap length h.put ∙ put_at-length logged j.total _

module _ {j : WriteLog} {logged lent : List ℕ} where
  pub logs_none : Listed j logged → Logs j logged lent [] j logged
  unfolding sizes sum handed writes_in
  logs_none l = record { count = omega arith; total = omega arith; put = sym (put_at-none logged j.total); listed = l; is = sym (append-nil _) }

  pub logs_then : {ps qs : List Place} {q r : WriteLog} {k₁ k₂ : List ℕ} {n : ℕ} → n ≡ sizes ps → sizes (ps ++ qs) ≤ length lent → Logs j logged lent ps q k₁ → Logs q k₁ (drop n lent) qs r k₂
      → Logs j logged lent (ps ++ qs) r k₂
  logs_then {ps} {qs} {q} {r} {k₁} {k₂} {n} e room a b =
      let vs = handed (writes_in ps lent) in
      let ws = handed (writes_in qs (drop n lent)) in
      let both = sizes_join ps qs in
      let m : length vs ≡ sizes ps = writes-handed ps lent (omega arith) in
      let o : length ws ≡ sizes qs = writes-handed qs (drop n lent) (omega (arith, length-drop n lent)) in
      let t : q.total ≡ j.total + length vs = omega (arith, a.total) in
      let fit : j.total + length (vs ++ ws) ≤ length logged = omega (arith, length-append vs ws, a.total, b.total, b.listed.inside, logs_long b, logs_long a) in
      record {
        count = omega (arith, a.count, b.count, length-append ps qs);
        total = omega (arith, a.total, b.total, sizes_join ps qs);
        put = b.put ∙ rw (a.put, t, put_at-next logged j.total vs ws fit, e, ← handed_join (writes_in ps lent) (writes_in qs (drop (sizes ps) lent)), ← writes_join ps qs lent);
        listed = b.listed;
        is = b.is ∙ rw (a.is, e, writes_join ps qs lent, append_assoc);
      }

  -- What is room for all is room for the others after the first.
  room_then : {ps : List Place} (qs : List Place) {q : WriteLog} {k : List ℕ} {n : ℕ} → n ≡ sizes ps → Logs j logged lent ps q k → Room j logged lent (ps ++ qs) → Room q k (drop n lent) qs
  room_then {ps} qs {n = n} e a r =
      let i = length-append ps qs in
      let m = sizes_join ps qs in
      record { few = omega (arith, r.few, a.count); handed = omega (arith, r.handed, length-drop n lent); space = omega (arith, r.space, a.total, logs_long a) }

-- ---- All writes of a list

pub listed-all : (ps : List Place) (g : Logging) (lent : List ℕ) (from : ℕ) → Listed g.log g.bytes → Listed (log_all g lent from ps).log (log_all g lent from ps).bytes
unfolding log_all
listed-all [] g lent from l = l
listed-all (p ∷ ps) g lent from l = listed-all ps (log_one g lent from p) lent (from + p.length) (listed_more g lent from p l)

-- Where there is room for all, all are logged.
logs_from : (ps : List Place) (g : Logging) (lent : List ℕ) (from : ℕ) → from ≤ length lent → Listed g.log g.bytes → Room g.log g.bytes (drop from lent) ps
    → Logs g.log g.bytes (drop from lent) ps (log_all g lent from ps).log (log_all g lent from ps).bytes
unfolding log_all sizes sum
logs_from [] g lent from h l r = logs_none l
logs_from (p ∷ ps) g lent from h l r =
    let n : p.length ≡ sizes (p ∷ []) = omega arith in
    let here : from + p.length ≤ length lent = omega (arith, r.handed, length-drop from lent) in
    let a = logs_more g lent from p l (omega (arith, r.few)) here (omega (arith, r.space)) in
    let b = logs_from ps (log_one g lent from p) lent (from + p.length) here a.listed (rw drop-drop at (room_then ps n a r)) in
    logs_then n r.handed a (rw drop-drop b)

pub logs_all : (ps : List Place) (g : Logging) (lent : List ℕ) → Listed g.log g.bytes → Room g.log g.bytes lent ps
    → Logs g.log g.bytes lent ps (log_all g lent 0 ps).log (log_all g lent 0 ps).bytes
logs_all ps g lent l r = logs_from ps g lent 0 (omega arith) l r
