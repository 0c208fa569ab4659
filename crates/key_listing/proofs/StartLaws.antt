-- Where the listing starts, by an opening's answer.
use Prim.Native.Nat.{ℕ, ◌<◌, ◌≤◌}
use mathlib.Core.Path.{◌≡◌}
use mathlib.Core.List.{List}
use Rattle.reader.specs.OpeningAndReading.{Opened, opening}
use lib.ListN.{length}
use borrow.Author.Tests.{lt-ltb, le-ltb}
use Rattle.reader.specs.declared.HpsReader.{HpsReader}
use Rattle.key_listing.specs.declared.Stage.{Stage}
use Rattle.key_listing.specs.MarkingKey.{listing_lines, lines_from}
use Rattle.layout.specs.Refusals.{key_limit}

module _ (s : List ℕ) (r : HpsReader) where
  pub start-long : key_limit < length s → lines_from s r (Stage.Stop 7) ≡ listing_lines s
  unfolding lines_from listing_lines
  start-long h = rw (lt-ltb key_limit (length s) h)

  pub start_refused : length s ≤ key_limit → (n : ℕ) → opening s ≡ Opened.refused n → lines_from s r (Stage.Stop n) ≡ listing_lines s
  unfolding lines_from listing_lines
  start_refused h n e = rw (le-ltb key_limit (length s) h) (rw e)

  pub start-opened : length s ≤ key_limit → opening s ≡ Opened.opened r → lines_from s r Stage.Head ≡ listing_lines s
  unfolding lines_from listing_lines
  start-opened h e = rw (le-ltb key_limit (length s) h) (rw e)
