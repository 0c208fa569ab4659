-- The fader's curve as text (document 02, Card 3): "A program computes the table from the rule and prints it".
use Rattle.std.specs.Prelude.{ℕ, zero, suc, ◌%◌, List, [], ◌∷◌, ◌++◌, eqb}
use Rattle.layout.specs.Choice.{pick}
use Rattle.key_lines.specs.Lines.{column}
use Rattle.fader.specs.Fader.{level_limit, curve_entry}

-- "eight to a line, right-justified in 6 columns": an entry's columns, and after the eighth of a line a newline
unfoldable pub entry_text : (k : ℕ) → List ℕ
entry_text k = column 6 (curve_entry k) ++ pick (eqb (k % 8) 7) (10 ∷ []) []

-- Entry after entry: the first n.
unfoldable pub text_of : (n : ℕ) → List ℕ
text_of zero = []
text_of (suc n) = text_of n ++ entry_text n

-- All of them.
abbrev pub curve_text : List ℕ
curve_text = text_of (suc level_limit)
