-- Lines of a text and their words.
use Rattle.std.specs.Prelude.{ℕ, zero, suc, Bool, true, not, List, [], ◌∷◌, map, take, drop, ltb, eqb}
use Rattle.layout.specs.Choice.{pick, ◌or◌, ◌and◌}
use Rattle.layout.specs.Lists.{first_index}

-- ---- Lines

-- 10 ends a line.
abbrev pub ends_line : ℕ → Bool
ends_line b = eqb b 10

-- "`#` starts a comment."
abbrev pub starts_comment : ℕ → Bool
starts_comment b = eqb b 35

-- What a line says before its comment.
unfoldable pub uncommented : List ℕ → List ℕ
uncommented l = take (first_index starts_comment l) l

-- The first line of a text, with its comment.
abbrev pub whole_line : List ℕ → List ℕ
whole_line s = take (first_index ends_line s) s

-- The same without it.
unfoldable pub line_of : List ℕ → List ℕ
line_of s = uncommented (whole_line s)

-- The text after its first line.
unfoldable pub lines_after : List ℕ → List ℕ
lines_after s = drop (suc (first_index ends_line s)) s

-- How many bytes the whole lines of a text have: up to its last end of a line.
unfoldable pub whole_lines : List ℕ → ℕ
whole_lines [] = 0
whole_lines (b ∷ bs) = pick (ltb 0 (whole_lines bs)) (suc (whole_lines bs)) (pick (ends_line b) 1 0)

-- A byte at the start of the first line.
unfoldable pub onto : ℕ → List (List ℕ) → List (List ℕ)
onto b [] = (b ∷ []) ∷ []
onto b (l ∷ ls) = (b ∷ l) ∷ ls

-- The text parted at the ends of lines; nothing after the last end is no line.
unfoldable pub parted : List ℕ → List (List ℕ)
parted [] = []
parted (b ∷ bs) = pick (ends_line b) ([] ∷ parted bs) (onto b (parted bs))

-- The lines of a text, each without its comment.
unfoldable pub lines_of : List ℕ → List (List ℕ)
lines_of s = map uncommented (parted s)

-- ---- Words

-- "words and decimals apart by blanks": blank, tab and carriage return
abbrev pub is_blank : ℕ → Bool
is_blank b = eqb b 32 or eqb b 9 or eqb b 13

-- A byte of a word.
abbrev pub is_letter : ℕ → Bool
is_letter b = not (is_blank b)

-- Where a scan for a blank stops, or for a letter.
abbrev pub stops : (blank : Bool) → ℕ → Bool
stops blank b = pick blank (is_blank b) (is_letter b)

-- From the first word of a line on.
unfoldable pub from_word : List ℕ → List ℕ
from_word l = drop (first_index is_letter l) l

-- The first word of a line.
unfoldable pub first_word : List ℕ → List ℕ
first_word l = take (first_index is_blank (from_word l)) (from_word l)

-- A line after its first word.
unfoldable pub after_word : List ℕ → List ℕ
after_word l = drop (first_index is_blank (from_word l)) (from_word l)

-- A word of a line, counted from 0; empty where there is none.
unfoldable pub word_from : List ℕ → (i : ℕ) → List ℕ
word_from l zero = first_word l
word_from l (suc i) = word_from (after_word l) i

-- How many words start in what follows: each at a letter that comes after a blank, or first where the part before it is apart.
unfoldable pub words_from : (apart : Bool) → List ℕ → ℕ
words_from apart [] = 0
words_from apart (b ∷ bs) = pick (is_letter b and apart) (suc (words_from (is_blank b) bs)) (words_from (is_blank b) bs)

-- How many words a line has.
unfoldable pub word_count : List ℕ → ℕ
word_count l = words_from true l
