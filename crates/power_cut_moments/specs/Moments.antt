-- Moments: "the number of bytes of all writes, in order, that had reached the slot when the power failed".
use Rattle.std.specs.Prelude.{ℕ, suc, ◌+◌, ◌-◌, ◌<◌, ◌≤◌, ◌≡◌, List, [], ◌∷◌, length, take, drop, leb}
use Rattle.layout.specs.Choice.{pick}
use Rattle.layout.specs.Lists.{All, put}
use Rattle.layout.specs.Types.{Bytes, Slice}
use Rattle.writer.specs.WritesAndCuttingRule.{Write, CutLeaves}
use Rattle.writer.specs.Loading.{Call, accepted}
use Rattle.writer.specs.Typed.{Typed}
use Rattle.writer.specs.declared.Looping.{Looping}
use Rattle.power_cut.specs.LoadingBook.{begun, book_run}
use Rattle.power_cut.specs.PowerCut.{begin, all_writes, AfterCut}
use Rattle.writer.specs.Calls.{answer_of}

-- The slot once the first n bytes of a write have reached it; a write that does not lie in the slot leaves it as it is.
unfoldable pub reached : List ℕ → Write → (n : ℕ) → List ℕ
reached s w n = pick (leb (w.offset + length w.bytes) (length s)) (put s w.offset (take n w.bytes)) s

-- The slot at a moment of a list of writes: whole writes, then a part of the next one.
unfoldable pub slot_at : List ℕ → List Write → (moment : ℕ) → List ℕ
slot_at s [] m = s
slot_at s (w ∷ ws) m =
    pick (leb (length w.bytes) m) (slot_at (reached s w (length w.bytes)) ws (m - length w.bytes)) (reached s w m)

-- One byte more of a write of which the first k have reached the slot.
unfoldable pub reached_next : List ℕ → Write → (k : ℕ) → List ℕ
reached_next s w k = pick (leb (w.offset + length w.bytes) (length s)) (put s (w.offset + k) (take 1 (drop k w.bytes))) s

-- One byte more of a list of writes: the first that has not reached the slot at this moment.
unfoldable pub next_byte : List ℕ → List Write → (moment : ℕ) → List ℕ
next_byte s [] m = s
next_byte s (w ∷ ws) m = pick (leb (length w.bytes) m) (next_byte s ws (m - length w.bytes)) (reached_next s w m)

-- How many writes have taken at a moment.
unfoldable pub taken_at : List Write → (moment : ℕ) → ℕ
taken_at [] m = 0
taken_at (w ∷ ws) m = pick (leb (length w.bytes) m) (suc (taken_at ws (m - length w.bytes))) 0

-- A write of bytes that lies in a slot of this length.
pub record Inside (n : ℕ) (w : Write) : Type 0 where
  pub ends : w.offset + length w.bytes ≤ n
  pub bytes : Bytes w.bytes

-- Every moment is a cut of the cutting rule, with the writes that have reached the slot whole as those that have taken.
unfoldable pub EveryMoment : Type 0
EveryMoment = (s : List ℕ) → Bytes s → (ws : List Write) → All (Inside (length s)) ws → (m : ℕ) → CutLeaves s ws (taken_at ws m) (slot_at s ws m)

-- So the power cut speaks of every moment of a loading: what `cut` lists at a moment is the slot of which it says what opens.
unfoldable pub PowerCutAtMoments : Type 0
PowerCutAtMoments =
    (earlier : List ℕ) → Slice earlier → (channels : ℕ) → channels < 18446744073709551616 → (mode : Looping) (lent : List ℕ) → Slice lent
    → (let o = begin (length earlier) channels mode lent in
    answer_of o ≡ accepted 0 → (calls : List Call) → All Typed calls
    → (m : ℕ) → AfterCut earlier (book_run (begun (length earlier) channels mode) calls) (all_writes o calls) (taken_at (all_writes o calls) m) (slot_at earlier (all_writes o calls) m))
