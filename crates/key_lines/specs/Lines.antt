-- Marking key (document 01, "Marking key and estimate"): columns and lines.
use Rattle.std.specs.Prelude.{ℕ, zero, suc, ◌+◌, ◌/◌, ◌%◌, ◌≤◌, ◌≡◌, List, [], ◌∷◌, ◌++◌, length, replicate, ltb, leb, Option, Some, None}
use Rattle.layout.specs.Choice.{pick}
use Rattle.layout.specs.Puts.{put_at}
use Rattle.layout.specs.Records.{num_samples}
use Rattle.layout.specs.declared.DspFormat.{DspFormat}
use Rattle.reader.specs.declared.HpsReader.{HpsReader}
use Rattle.key_lines.specs.declared.Column.{Column}
use Rattle.key_lines.specs.declared.Column.TheVariants.{Number, Start, Minus}

-- "right-justified decimals": the last digit, before it the other digits, or blanks where there are none
unfoldable pub column : (width n : ℕ) → List ℕ
column zero n = []
column (suc w) n = pick (ltb n 10) (replicate w 32) (column w (n / 10)) ++ ((48 + n % 10) ∷ [])

-- "right-justified decimals: 11 columns, a cue start 21"; "`-` in the last of its 11 columns"
abbrev pub column_bytes : Column → List ℕ
column_bytes (Number n) = column 11 n
column_bytes (Start n) = column 21 n
column_bytes Minus = replicate 10 32 ++ (45 ∷ [])

-- columns, one after the other
abbrev pub columns_bytes : List Column → List ℕ
columns_bytes [] = []
columns_bytes (c ∷ cs) = column_bytes c ++ columns_bytes cs

-- "It prints a four-letter word and right-justified decimals .. Each line ends with one newline."
abbrev pub line : (word : List ℕ) → List Column → List ℕ
line word columns = word ++ columns_bytes columns ++ (10 ∷ [])

-- "Refused: STOP and the number alone."
abbrev pub stop_line : ℕ → List ℕ
stop_line n = line (83 ∷ 84 ∷ 79 ∷ 80 ∷ []) (Number n ∷ [])

-- "Loop start in HEAD is the block's index, or `-` in the last of its 11 columns."
abbrev pub loop_column : Option ℕ → Column
loop_column None = Minus
loop_column (Some i) = Number i

-- "HEAD rate, channels, blocks, loop start or `-`"
abbrev pub head_line : HpsReader → List ℕ
head_line r = line (72 ∷ 69 ∷ 65 ∷ 68 ∷ []) (Number r.rate ∷ Number r.count ∷ Number r.blocks ∷ loop_column r.loop_start ∷ [])

-- "BLCK index, offset, length, samples, cues": samples in channel 0's format, cues the header's count
abbrev pub block_line : DspFormat → (index offset data_length cues : ℕ) → List ℕ
block_line f i o n cues = line (66 ∷ 76 ∷ 67 ∷ 75 ∷ []) (Number i ∷ Number o ∷ Number n ∷ Number (num_samples f n) ∷ Number cues ∷ [])

-- "LOOP start": "a cue start 21"
abbrev pub loop_line : (start : ℕ) → List ℕ
loop_line s = line (76 ∷ 79 ∷ 79 ∷ 80 ∷ []) (Start s ∷ [])

-- "CUEP start, id"
abbrev pub cue_line : (start id : ℕ) → List ℕ
cue_line s n = line (67 ∷ 85 ∷ 69 ∷ 80 ∷ []) (Start s ∷ Number n ∷ [])

-- ---- What a call that puts a column or a line does

-- The column from an offset on, where it fits wholly, and how many bytes it has.
pub record FieldPut (before : List ℕ) (at : ℕ) (c : Column) (after : List ℕ) (n : ℕ) : Type 0 where
  pub put : after ≡ put_at before at (column_bytes c)
  pub long : n ≡ length (column_bytes c)
  pub most : n ≤ 21

-- The line from an offset on, and its length; where it does not fit wholly, nothing is changed and the length is 0.
pub record LinePut (before : List ℕ) (at : ℕ) (bytes after : List ℕ) (n : ℕ) : Type 0 where
  pub put : after ≡ put_at before at bytes
  pub long : n ≡ pick (leb (at + length bytes) (length before)) (length bytes) 0
