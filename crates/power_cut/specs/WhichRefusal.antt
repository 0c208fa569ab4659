-- Which refusal a cut gives: beside PowerCut, over the same lists and cuts.
use Rattle.std.specs.Prelude.{ℕ, ◌+◌, ◌<◌, ◌≡◌, true, false, List, ◌++◌, ◌⊎◌, length, take}
use Rattle.layout.specs.Choice.{pick}
use Rattle.layout.specs.Lists.{All, same}
use Rattle.layout.specs.Types.{Bytes, Slice}
use Rattle.layout.specs.Records.{magic}
use Rattle.reader.specs.OpeningAndReading.{Opened, refused}
use Rattle.writer.specs.WritesAndCuttingRule.{Write, CutLeaves}
use Rattle.writer.specs.Loading.{Call, accepted, begin_writes, header_writes}
use Rattle.writer.specs.Typed.{Typed}
use Rattle.writer.specs.declared.Looping.{Looping}
use Rattle.power_cut.specs.LoadingBook.{Book, begun, book_run}
use Rattle.power_cut.specs.FinishedFile.{file_header}
use Rattle.power_cut.specs.PowerCut.{begin, opens, all_writes}
use Rattle.writer.specs.Calls.{answer_of}

-- "2 first 8 bytes wrong; 3 channel count not 1 or 2": 2 exactly where these eight bytes, the slot's first, are not the magic, else 3
abbrev pub refusal_by : (eight : List ℕ) → Opened
refusal_by eight = pick (same eight magic) (refused 3) (refused 2)

-- What opening gives at a cut of which this many writes have taken. Of a finished list finish's three writes are the last (`last` below): its first one
-- is ahead where taken + 3 < length ws, under way where taken + 3 ≡ length ws, and has taken where length ws < taken + 3.
pub record RefusalAt (earlier : List ℕ) (b : Book) (ws : List Write) (taken : ℕ) (slot : List ℕ) : Type 0 where
  -- once begin's write has taken and until finish's last has, the first eight bytes tell which
  pub answer : 0 < taken → (b.finished ≡ false) ⊎ (taken < length ws) → opens slot ≡ refusal_by (take 8 slot)
  -- they are the earlier content's until an accepted finish's first write is under way
  pub before : (b.finished ≡ false) ⊎ (taken + 3 < length ws) → take 8 slot ≡ take 8 earlier
  -- and the magic after it
  pub after : b.finished ≡ true → length ws < taken + 3 → take 8 slot ≡ magic
  -- so the answer is one number before it, which the earlier content alone decides
  pub loading : 0 < taken → (b.finished ≡ false) ⊎ (taken + 3 < length ws) → opens slot ≡ refusal_by (take 8 earlier)
  -- and 3 after it
  pub finishing : b.finished ≡ true → length ws < taken + 3 → taken < length ws → opens slot ≡ refused 3

-- A cut with finish's first write under way that leaves these as the slot's first eight bytes, and what opening then gives.
pub record CutTo (earlier : List ℕ) (ws : List Write) (eight : List ℕ) : Type 0 where
  pub taken : ℕ
  pub slot : List ℕ
  pub under : taken + 3 ≡ length ws
  pub cut : CutLeaves earlier ws taken slot
  pub starts : take 8 slot ≡ eight
  pub opening : opens slot ≡ refusal_by eight

-- What holds of every list of calls after an accepted begin: b the book after it, ws the writes.
pub record Refusals (earlier : List ℕ) (b : Book) (ws : List Write) : Type 0 where
  -- begin's write is the first of a finished list, and finish's three are the last
  pub last : b.finished ≡ true → (between : List Write) × (ws ≡ begin_writes ++ between ++ header_writes (file_header b))
  -- every cut
  pub cut : (taken : ℕ) (slot : List ℕ) → CutLeaves earlier ws taken slot → RefusalAt earlier b ws taken slot
  -- while finish's first write is under way those bytes are anything, so that both refusals occur
  pub torn : b.finished ≡ true → (eight : List ℕ) → Bytes eight → length eight ≡ 8 → CutTo earlier ws eight

-- The statement, with the premises of PowerCut.
unfoldable pub WhichRefusal : Type 0
WhichRefusal =
    (earlier : List ℕ) → Slice earlier → (channels : ℕ) → channels < 18446744073709551616 → (mode : Looping) (lent : List ℕ) → Slice lent
    → (let b = book_run (begun (length earlier) channels mode) in
    let o = begin (length earlier) channels mode lent in
    answer_of o ≡ accepted 0 → (calls : List Call) → All Typed calls → Refusals earlier (b calls) (all_writes o calls))
