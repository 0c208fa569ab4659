-- Writes logged for later.
use Rattle.std.specs.Prelude.{ℕ, ◌+◌, ◌≤◌, ◌≡◌, Bool, List, [], ◌∷◌, length, take, drop, set, replicate, ltb, leb}
use Rattle.layout.specs.Choice.{pick, ◌and◌}
use Rattle.layout.specs.Lists.{sum}
use Rattle.layout.specs.Puts.{put_at}
use Rattle.writer.specs.WritesAndCuttingRule.{Write, writes_in, most_writes}
use Rattle.writer.specs.declared.Place.{Place}
use Rattle.cut_write_log.specs.declared.WriteLog.{WriteLog}

-- A blank of the list.
abbrev pub no_place : Place
no_place = record { offset = 0; length = 0 }

-- No write.
abbrev pub empty_log : WriteLog
empty_log = record { count = 0; total = 0; places = replicate most_writes no_place }

-- A log, and the bytes of its writes one after the other.
pub record Logging : Type 0 where
  pub log : WriteLog
  pub bytes : List ℕ

abbrev pub logging : WriteLog → (logged : List ℕ) → Logging
logging j logged = record { log = j; bytes = logged }

-- Is there room for a write more, whose bytes lie in the lent buffer from here on?
abbrev pub room_for : Logging → (lent : List ℕ) → (from : ℕ) → Place → Bool
room_for g lent from p =
    ltb g.log.count most_writes and leb (from + p.length) (length lent) and leb (g.log.total + p.length) (length g.bytes)

-- The log with a write more.
abbrev pub with_write : WriteLog → Place → WriteLog
with_write j p = record { count = j.count + 1; total = j.total + p.length; places = set j.places j.count p }

-- A write more is logged after the others, and its bytes are put after theirs; nothing changes where there is no room.
unfoldable pub log_one : Logging → (lent : List ℕ) → (from : ℕ) → Place → Logging
log_one g lent from p =
    pick (room_for g lent from p) (logging (with_write g.log p) (put_at g.bytes g.log.total (take p.length (drop from lent)))) g

-- Writes more, one after the other; their bytes lie one after the other in the lent buffer.
unfoldable pub log_all : Logging → (lent : List ℕ) → (from : ℕ) → List Place → Logging
log_all g lent from [] = g
log_all g lent from (p ∷ ps) = log_all (log_one g lent from p) lent (from + p.length) ps

-- The writes: "a write's bytes are those that its call handed out".
unfoldable pub logged_writes : WriteLog → (logged : List ℕ) → List Write
logged_writes j logged = writes_in (take j.count j.places) logged

-- How many bytes writes have.
unfoldable pub sizes : List Place → ℕ
sizes ps = sum (λ p. p.length) ps

-- No more are logged than there is room for, and the bytes of all are there.
pub record Listed (j : WriteLog) (logged : List ℕ) : Type 0 where
  pub few : j.count ≤ most_writes
  pub room : length j.places ≡ most_writes
  pub bytes : j.total ≡ sizes (take j.count j.places)
  pub inside : j.total ≤ length logged
