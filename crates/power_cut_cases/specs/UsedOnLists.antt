-- The statements on the finished file and on the estimate, used on two lists of calls: the worked example, mono, and the one behind the recorded stereo file.
use Rattle.std.specs.Prelude.{ℕ, ◌≤◌, ◌≡◌, List, [], ◌∷◌, ◌++◌, length, drop}
use Rattle.layout.specs.Types.{Slice}
use Rattle.writer.specs.WritesAndCuttingRule.{Write, CutLeaves}
use Rattle.writer.specs.Loading.{Call, accepted}
use Rattle.writer.specs.declared.Looping.TheVariants.{Auto}
use Rattle.power_cut.specs.PowerCut.{begin, all_writes, estimates}
use Rattle.power_cut_cases.specs.MarkedForTheTable.{worked, recorded, file}
use Rattle.power_cut_cases.specs.RecordedFiles as files

-- The writes of these calls on a slot of this length, in Auto and with one lent byte at begin.
abbrev pub writes_on : (slot_length channels : ℕ) → List Call → List Write
writes_on n ch cs = all_writes (begin n ch Auto (9 ∷ [])) cs

-- Whatever a slot of this length held: once all writes of these calls have taken it holds this file, and beyond it what it held.
abbrev pub SlotHolds : (slot_length channels : ℕ) → List Call → (bytes : List ℕ) → Type 0
SlotHolds n ch cs bytes =
    (earlier : List ℕ) → Slice earlier → length earlier ≡ n → (slot : List ℕ)
    → CutLeaves earlier (writes_on (length earlier) ch cs) (length (writes_on (length earlier) ch cs)) slot → slot ≡ bytes ++ drop (length bytes) earlier

-- The worked example, in a slot of 300 bytes.
unfoldable pub WorkedSlot : Type 0
WorkedSlot = SlotHolds 300 1 worked file

-- The recorded stereo file, in a slot of 420 bytes.
unfoldable pub StereoSlot : Type 0
StereoSlot = SlotHolds 420 2 recorded files.stereo

-- The estimate of the worked example is accepted, and not below its length of 224 bytes.
unfoldable pub WorkedEstimate : Type 0
WorkedEstimate = (n : ℕ) × (estimates 1 (16 ∷ []) 1 ≡ accepted n) × (224 ≤ n)

-- The recorded stereo file has 416 bytes; seven of its cues are points and ranges.
unfoldable pub StereoEstimate : Type 0
StereoEstimate = (n : ℕ) × (estimates 2 (16 ∷ 16 ∷ []) 7 ≡ accepted n) × (416 ≤ n)
