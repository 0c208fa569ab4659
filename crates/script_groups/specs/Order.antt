-- Which lines of a script belong together.
use Rattle.std.specs.Prelude.{ℕ, ◌≡◌, Bool, not, List, [], ◌∷◌, take, drop, get_or, eqb}
use Rattle.layout.specs.Choice.{pick}
use Rattle.layout.specs.Lists.{filter}
use Rattle.script_words.specs.Texts.{word_count, line_of, lines_after, lines_of}
use Rattle.script_lines.specs.Lines.{is_kind, line_kind, lent_line}
use Rattle.script_lines.specs.declared.kinds.Kind.{Kind}
use Rattle.script_lines.specs.declared.kinds.Kind.TheVariants as Kinds
use Rattle.script_groups.specs.declared.Start.{Start}

-- Does a line have a word?
unfoldable pub said : List ℕ → Bool
said l = not (eqb (word_count l) 0)

-- "followed by a line `CHAN ..` for each of its channels": of the lines after a PUSH with so many channels
unfoldable pub sides_in : (channels : ℕ) → List (List ℕ) → List (List ℕ)
sides_in n ls = take n (filter said ls)

-- "`LENT n` (the length of the lent buffer for the calls after it ..)": after a line of this kind
unfoldable pub lent_by : Kind → List ℕ → (lent : ℕ) → ℕ
lent_by k l n = pick (is_kind k Kinds.Lent) (lent_line l) n

-- BEGN's line, how long the lent buffer is then, and the lines after it.
pub record Opening : Type 0 where
  pub line : List ℕ
  pub lent : ℕ
  pub rest : List (List ℕ)

-- The first BEGN of these lines, the lent buffer being so long before them.
unfoldable pub opening_from : (lent : ℕ) → List (List ℕ) → Opening
opening_from n [] = record { line = []; lent = n; rest = [] }
opening_from n (l ∷ ls) = pick (is_kind (line_kind l) Kinds.Begin) (record { line = l; lent = n; rest = ls }) (opening_from (lent_by (line_kind l) l n) ls)

-- ---- Places in a text

-- At this place the first line starts that has a word, of those from a place on.
pub record Said (s : List ℕ) (from at : ℕ) : Type 0 where
  pub line : line_of (drop at s) ≡ get_or (filter said (lines_of (drop from s))) 0 []
  pub rest : filter said (lines_of (lines_after (drop at s))) ≡ drop 1 (filter said (lines_of (drop from s)))

-- Here BEGN's line starts.
pub record Starts (s : List ℕ) (lent : ℕ) (r : Start) : Type 0 where
  pub line : line_of (drop r.at s) ≡ (opening_from lent (lines_of s)).line
  pub buffer : r.lent ≡ (opening_from lent (lines_of s)).lent
  pub rest : lines_of (lines_after (drop r.at s)) ≡ (opening_from lent (lines_of s)).rest
