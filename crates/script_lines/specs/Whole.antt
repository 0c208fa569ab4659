-- Whether a script is well formed: each line says what its kind must, BEGN is the first call and comes once, and PUSH is followed by a CHAN line for each of its
-- channels. Lines with no word, and comments, may stand anywhere; LENT anywhere but among those.
use Rattle.std.specs.Prelude.{ℕ, suc, ◌-◌, Bool, true, false, not, List, [], ◌∷◌, ltb, eqb, Option, Some, None}
use Rattle.std.specs.Option.{is_some, unwrap_or}
use Rattle.layout.specs.Choice.{pick, ◌and◌}
use Rattle.script_words.specs.Texts.{lines_of}
use Rattle.script_lines.specs.declared.kinds.Kind.{Kind}
use Rattle.script_lines.specs.declared.kinds.Kind.TheVariants as Kinds
use Rattle.script_lines.specs.declared.whole.Due.{Due}
use Rattle.script_lines.specs.Lines.{is_kind, line_kind, push_line, says_begin, says_cue, says_push, says_channel, says_lent}

-- What is due after a line that may stand there.
abbrev pub due : (good begun : Bool) (channels : ℕ) → Option Due
due g b n = pick g (Some (record { begun = b; channels = n })) None

-- Whether the words after the first are what the line's kind must have.
unfoldable pub says_all : List ℕ → Kind → Bool
says_all l Kinds.Nothing = true
says_all l Kinds.Begin = says_begin l
says_all l Kinds.Point = says_cue l Kinds.Point
says_all l Kinds.Loop = says_cue l Kinds.Loop
says_all l Kinds.Range = says_cue l Kinds.Range
says_all l Kinds.Push = says_push l
says_all l Kinds.Channel = says_channel l
says_all l Kinds.Finish = true
says_all l Kinds.Lent = says_lent l
says_all l Kinds.Unknown = false

-- A line of this kind, where no CHAN is due.
unfoldable pub after_call : List ℕ → Kind → (begun : Bool) → Option Due
after_call l k b =
    pick (is_kind k Kinds.Begin) (due (not b) true 0)
    (pick (is_kind k Kinds.Push) (due b b (push_line l).channels)
    (pick (is_kind k Kinds.Lent) (due true b 0)
    (pick (is_kind k Kinds.Channel) (due false b 0) (due b b 0))))

-- A line of this kind, where so many CHAN lines are due.
abbrev pub after_channel : Kind → (channels : ℕ) → Option Due
after_channel k n = pick (is_kind k Kinds.Channel) (due true true (n - 1)) (due false true n)

-- What a line of this kind leaves due.
unfoldable pub after_kind : List ℕ → Kind → Due → Option Due
after_kind l k d =
    pick (is_kind k Kinds.Nothing) (Some d)
    (pick (says_all l k) (pick (ltb 0 d.channels) (after_channel k d.channels) (after_call l k d.begun)) None)

unfoldable pub after_line : List ℕ → Due → Option Due
after_line l d = after_kind l (line_kind l) d

-- "one line `LINE` with the line's number": the first that goes wrong, 0 where none does. Where a line is missing at the end, that is the line after the last.
unfoldable pub wrong_from : Due → (number : ℕ) → List (List ℕ) → ℕ
wrong_from d n [] = pick (d.begun and eqb d.channels 0) 0 n
wrong_from d n (l ∷ ls) = pick (is_some (after_line l d)) (wrong_from (unwrap_or (after_line l d) d) (suc n) ls) n

unfoldable pub wrong_line : List ℕ → ℕ
wrong_line s = wrong_from (record { begun = false; channels = 0 }) 1 (lines_of s)
