-- What holds of every opening, and of the reading calls on the unchanged slot.
use Rattle.std.specs.Prelude.{ℕ, ◌+◌, ◌≤◌, ◌<◌, ◌≡◌, List, ◌⊎◌, Some}
use Rattle.layout.specs.Lists.{sum}
use Rattle.layout.specs.Records.{Read, first_block_offset, header_at, read_header}
use Rattle.layout.specs.Refusals.{block_limit}
use Rattle.layout.specs.declared.BlockHeader.{BlockHeader}
use Rattle.reader.specs.declared.HpsReader.{HpsReader}
use Rattle.reader.specs.OpeningAndReading.{Opened, opening, Remaining, offset_in, offsets_from, data_remaining}
use Rattle.reader.specs.CuesReadBack.{CueAnswer, first_cursor, nth_cue}

-- The sum of the blocks' cue counts.
unfoldable pub cue_count : List ℕ → HpsReader → ℕ
cue_count s r = sum (λ o. (header_at s o).cues) (offsets_from r 0)

-- The record of an accepted opening, and the calls on it while the slot stays as it is.
pub record Accepted (s : List ℕ) (r : HpsReader) : Type 0 where
  pub channels : (r.count ≡ 1) ⊎ (r.count ≡ 2)
  pub some : 1 ≤ r.blocks
  pub few : r.blocks ≤ block_limit
  pub first : offset_in r 0 ≡ first_block_offset
  pub different : (i j : ℕ) → i < j → j < r.blocks → offset_in r i ≡ offset_in r j → ⊥
  pub loop : (i : ℕ) → r.loop_start ≡ Some i → i < r.blocks
  -- each header is read
  pub header : (i : ℕ) → i < r.blocks → (h : BlockHeader) × (read_header s (offset_in r i) ≡ Read.value h)
  -- addresses remaining never gives 1
  pub remaining : (i : ℕ) → (n : ℕ) × (data_remaining s r i ≡ Remaining.addresses n)
  -- no cue call from the first cursor on gives 1
  pub cue : (n k : ℕ) → nth_cue s r (first_cursor r) n ≡ CueAnswer.refused k → ⊥
  -- beside the cues there is at most one call for the Loop and one for the end
  pub end : (n : ℕ) × (n < cue_count s r + 2) × (nth_cue s r (first_cursor r) n ≡ CueAnswer.ended)

unfoldable pub OpeningLaws : Type 0
OpeningLaws = (s : List ℕ) (r : HpsReader) → opening s ≡ Opened.opened r → Accepted s r
