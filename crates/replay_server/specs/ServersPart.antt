-- The server's part after a recorded call: the writes of an accepted call are carried out, and after each the slot is opened.
use Rattle.std.specs.Prelude.{ℕ, ◌+◌, Bool, true, false, List, leb, eqb}
use Rattle.layout.specs.Choice.{pick}
use Rattle.layout.specs.Puts.{put_at}
use Rattle.replay_input.specs.Parts.{part_at}
use Rattle.reader.specs.OpeningAndReading.{Opened, opening}
use Rattle.writer.specs.declared.Place.{Place}
use Rattle.writer.specs.Calls.{Reply}

-- Whether an opening is as due: before finish's last write it is refused with 2 or 3.
abbrev pub is_due : Opened → (opens : Bool) → Bool
is_due (Opened.refused n) opens = pick opens false (pick (eqb n 2) true (eqb n 3))
is_due (Opened.opened r) opens = opens

-- Whether all went as recorded, and the slot.
pub record Applied : Type 0 where
  pub good : Bool
  pub slot : List ℕ

-- The same, by its parts.
abbrev pub applied : Bool → (slot : List ℕ) → Applied
applied b s = record { good = b; slot = s }

-- What is done next, where all went as recorded.
abbrev pub and_then : Applied → (List ℕ → Applied) → Applied
and_then a f = pick a.good (f a.slot) a

-- A write of so many bytes from a place of the lent buffer on, into the n bytes that the loading has of the slot.
unfoldable pub write_applied : (slot : List ℕ) (n : ℕ) → Place → (lent : List ℕ) (from many : ℕ) (opens : Bool) → Applied
write_applied s n p lent from k opens =
    pick (leb (p.offset + p.length) n)
    (applied (is_due (opening (part_at (put_at s p.offset (part_at lent from k)) 0 n)) opens) (put_at s p.offset (part_at lent from k)))
    (applied false s)

-- Finish's three writes: the slot opens after the last one, and not before.
unfoldable pub header_applied : (slot : List ℕ) (n : ℕ) (start rest mark : Place) (lent : List ℕ) → Applied
header_applied s n x y z lent =
    and_then (write_applied s n x lent 0 15 false) (λ t.
    and_then (write_applied t n y lent 15 112 false) (λ u.
    write_applied u n z lent 127 1 true))

-- A reply held to the number due, 0 where the call is accepted, and to the finished length.
unfoldable pub reply_applied : (slot : List ℕ) (n : ℕ) → Reply → (due finished : ℕ) (lent : List ℕ) → Applied
reply_applied s n (Reply.Refused k) due l lent = applied (eqb k due) s
reply_applied s n Reply.NoWrite due l lent = applied (eqb due 0) s
reply_applied s n (Reply.OneWrite p) due l lent = pick (eqb due 0) (write_applied s n p lent 0 p.length false) (applied false s)
reply_applied s n (Reply.ThreeWrites k x y z) due l lent = pick (eqb due 0) (pick (eqb k l) (header_applied s n x y z lent) (applied false s)) (applied false s)
