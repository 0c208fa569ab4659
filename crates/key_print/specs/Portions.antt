-- What is printed of a listing; a portion of one in a buffer, and what is still to be listed from it on.
use Rattle.std.specs.Prelude.{ℕ, ◌-◌, ◌≤◌, ◌≡◌, List, [], ◌++◌, length, take, drop, Result, Ok, Err, IfOk}
use Rattle.reader.specs.declared.HpsReader.{HpsReader}
use Rattle.key_listing.specs.MarkingKey.{listing_from}
use Rattle.key_print.specs.declared.Portion.{Portion}

-- How many bytes the system was handed, whether it took them all or not.
abbrev pub handed : Result ℕ ℕ → ℕ
handed (Ok n) = n
handed (Err n) = n

-- No more than the listing was handed to the system, and where it took all, the whole listing.
pub record PrintedOf (listing : List ℕ) (p : Result ℕ ℕ) : Type 0 where
  pub most : handed p ≤ length listing
  pub all : IfOk p (λ n. n ≡ length listing)

-- The portion is inside the buffer.
pub record Held (p : Portion) (out : List ℕ) : Type 0 where
  pub order : p.at ≤ p.end
  pub inside : p.end ≤ length out

-- Its bytes.
abbrev pub portion_bytes : Portion → (out : List ℕ) → List ℕ
portion_bytes p out = take (p.end - p.at) (drop p.at out)

-- Its bytes, and the listing from the stage after it on.
unfoldable pub still_listed : (s : List ℕ) → HpsReader → Portion → (out : List ℕ) → List ℕ
still_listed s r p out = portion_bytes p out ++ listing_from s r p.stage

-- The same is still to be listed, and where the portion is empty, nothing.
pub record MoreIs (s : List ℕ) (r : HpsReader) (p : Portion) (before : List ℕ) (q : Portion) (after : List ℕ) : Type 0 where
  pub held : Held q after
  pub long : length after ≡ length before
  pub same : still_listed s r q after ≡ still_listed s r p before
  pub ended : q.at ≡ q.end → still_listed s r q after ≡ []
