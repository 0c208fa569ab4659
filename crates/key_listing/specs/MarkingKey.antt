-- Marking key (document 01, "Marking key and estimate"): the lines of a slot's listing, and the bytes that `key` prints.
use Rattle.std.specs.Prelude.{ℕ, zero, suc, ◌+◌, length, ltb}
use mathlib.Core.List.{List, [], ◌∷◌, flatten}
use Rattle.layout.specs.Choice.{pick}
use Rattle.layout.specs.Records.{on, read_header, length_in}
use Rattle.reader.specs.OpeningAndReading.{Opened, refused, opened, opening, channel_in, offsets_from}
use Rattle.reader.specs.CuesReadBack.{CueAnswer, first_cursor, cue_step}
use Rattle.reader.specs.declared.HpsReader.{HpsReader}
use Rattle.reader.specs.declared.CueIterator.{CueIterator}
use Rattle.key_listing.specs.declared.Stage.{Stage}
use Rattle.key_lines.specs.Lines.{stop_line, head_line, block_line, loop_line, cue_line}
use Rattle.layout.specs.Refusals.{key_limit}

-- A cue call's line and what follows it; nothing follows the end.
abbrev pub on_cue : CueAnswer → (rest : List (List ℕ)) → List (List ℕ)
on_cue (CueAnswer.refused n) rest = []
on_cue CueAnswer.ended rest = []
on_cue (CueAnswer.loop s) rest = loop_line s ∷ rest
on_cue (CueAnswer.point s n) rest = cue_line s n ∷ rest

-- "then cues in reading order": those of n cue calls from a cursor on
unfoldable pub cue_lines : (n : ℕ) → List ℕ → HpsReader → CueIterator → List (List ℕ)
cue_lines zero s r c = []
cue_lines (suc n) s r c = on_cue (cue_step s r c).answer (cue_lines n s r (cue_step s r c).after)

-- As many cue calls as an opened slot can need: 512 blocks of 255 cues, the Loop and the end.
abbrev pub cue_calls : ℕ
cue_calls = 130562

-- "then cues": from the first cursor on
abbrev pub all_cues : List ℕ → HpsReader → List (List ℕ)
all_cues s r = cue_lines cue_calls s r (first_cursor r)

-- "All BLCK lines come first": of these offsets, from index i on, then the cues
unfoldable pub block_lines : List ℕ → HpsReader → (i : ℕ) → (offsets : List ℕ) → List (List ℕ)
block_lines s r i [] = all_cues s r
block_lines s r i (o ∷ os) = on (read_header s o) (λ n. []) (λ h. block_line (channel_in r 0).format i o (length_in h) h.cues ∷ block_lines s r (i + 1) os)

-- The lines of an opened slot.
unfoldable pub opened_lines : List ℕ → HpsReader → List (List ℕ)
opened_lines s r = head_line r ∷ block_lines s r 0 (offsets_from r 0)

-- The lines of what an opening answers.
abbrev pub on_opened : List ℕ → Opened → List (List ℕ)
on_opened s (refused n) = stop_line n ∷ []
on_opened s (opened r) = opened_lines s r

-- "Program `key` reads a slot of at most 65,536 bytes from standard input, else 7."
unfoldable pub listing_lines : List ℕ → List (List ℕ)
listing_lines s = pick (ltb key_limit (length s)) (stop_line 7 ∷ []) (on_opened s (opening s))

-- The listing: its lines, one after the other.
abbrev pub listing : List ℕ → List ℕ
listing s = flatten (listing_lines s)

-- ---- The listing from a stage on

-- The lines that are still to be printed.
unfoldable pub lines_from : List ℕ → HpsReader → Stage → List (List ℕ)
lines_from s r (Stage.Stop n) = stop_line n ∷ []
lines_from s r Stage.Head = opened_lines s r
lines_from s r (Stage.Blocks i) = block_lines s r i (offsets_from r i)
lines_from s r (Stage.Cues n c) = cue_lines n s r c
lines_from s r Stage.Done = []

-- The same as bytes.
abbrev pub listing_from : List ℕ → HpsReader → Stage → List ℕ
listing_from s r stage = flatten (lines_from s r stage)
