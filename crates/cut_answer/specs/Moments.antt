-- What `cut` lists: the slot at the moments of a script on an earlier slot.
use Rattle.std.specs.Prelude.{ℕ, suc, ◌<◌, ◌≤◌, ◌≡◌, List, ◌⊎◌, length}
use Rattle.layout.specs.Lists.{sum}
use Rattle.writer.specs.WritesAndCuttingRule.{Write}
use Rattle.power_cut_moments.specs.Moments.{slot_at}
use Rattle.key_listing.specs.MarkingKey.{listing}
use Rattle.script_run.specs.Script.{script_writes}

-- "A moment is the number of bytes of all writes, in order, that had reached the slot when the power failed": the slot then
abbrev pub slot_of : (earlier script : List ℕ) → (moment : ℕ) → List ℕ
slot_of e s m = slot_at e (script_writes (length e) s) m

-- The last moment: the number of bytes of all writes.
unfoldable pub last_moment : (slot : ℕ) → (script : List ℕ) → ℕ
last_moment n s = sum (λ w. length w.bytes) (script_writes n s)

-- "for each run of moments with the same listing": from the first moment to the last these lines are listed
unfoldable pub MomentRun : (earlier script : List ℕ) → (first last : ℕ) → (lines : List ℕ) → Type 0
MomentRun e s first last lines = (m : ℕ) → first ≤ m → m ≤ last → listing (slot_of e s m) ≡ lines

-- The end of a run that starts at a moment: the moment after it, when other lines are listed; or the one after the last moment.
pub record RunEnds (s : List ℕ) (ws : List Write) (from last : ℕ) (lines : List ℕ) (next : ℕ) (slot : List ℕ) : Type 0 where
  pub later : from < next
  pub same : (m : ℕ) → from ≤ m → m < next → listing (slot_at s ws m) ≡ lines
  pub ends : (next ≡ suc last) ⊎ ((next ≤ last) × ((slot ≡ slot_at s ws next) × (listing slot ≡ lines → ⊥)))
