-- The calls that a well-formed script makes, and the writes that they hand out.
use Rattle.std.specs.Prelude.{ℕ, ◌+◌, List, [], ◌∷◌, ◌++◌, get_or, ltb}
use Rattle.layout.specs.Choice.{pick, ◌or◌}
use Rattle.script_words.specs.Texts.{lines_of}
use Rattle.script_lines.specs.Lines.{is_kind, line_kind, begin_line, cue_said, push_line, side_said}
use Rattle.script_lines.specs.declared.kinds.Kind.{Kind}
use Rattle.script_lines.specs.declared.kinds.Kind.TheVariants as Kinds
use Rattle.script_lines.specs.declared.lines.PushLine.{PushLine}
use Rattle.script_groups.specs.Order.{sides_in, lent_by, Opening, opening_from}
use Rattle.writer.specs.WritesAndCuttingRule.{Write}
use Rattle.writer.specs.Loading.{Push, Call, cue, push, finish}
use Rattle.writer.specs.Calls.{Outcome}
use Rattle.power_cut.specs.PowerCut.{begin, all_writes}
use Rattle.cut_logged_calls.specs.LoggedCalls.{long_lent, lent_of}
use Rattle.layout.specs.Refusals.{slot_limit, key_limit}

-- The longest script.
abbrev pub script_limit : ℕ
script_limit = 1048576

-- A push by what PUSH says and its two CHAN lines; an empty line says zeros and no data.
unfoldable pub push_with : PushLine → (left right : List ℕ) → Push
push_with p l r = record { channels = p.channels; left = side_said l; right = side_said r; last = p.last }

-- "`PUSH channels last` followed by a line `CHAN ..` for each of its channels": PUSH, and the lines after it
unfoldable pub push_by : List ℕ → (after : List (List ℕ)) → Push
push_by l ls =
    push_with (push_line l) (get_or (sides_in (push_line l).channels ls) 0 []) (get_or (sides_in (push_line l).channels ls) 1 [])

-- "one call a line": the call of a line of this kind, where the lent buffer is so long. BEGN's is not one of these, and CHAN's is its PUSH's.
unfoldable pub call_by : Kind → List ℕ → (lent : ℕ) → (after : List (List ℕ)) → List Call
call_by k l n ls =
    pick (is_kind k Kinds.Push) (push (push_by l ls) (lent_of n) ∷ [])
    (pick (is_kind k Kinds.Finish) (finish (lent_of n) ∷ [])
    (pick (is_kind k Kinds.Point or is_kind k Kinds.Loop or is_kind k Kinds.Range) (cue (cue_said l k) ∷ []) []))

-- The calls of these lines, the lent buffer being so long before them.
unfoldable pub calls_in : (lent : ℕ) → List (List ℕ) → List Call
calls_in n [] = []
calls_in n (l ∷ ls) = call_by (line_kind l) l n ls ++ calls_in (lent_by (line_kind l) l n) ls

-- BEGN's line in a script.
abbrev pub begin_line_in : List ℕ → Opening
begin_line_in s = opening_from long_lent (lines_of s)

-- "the slot length is EARLIER's"; a slot that is too long to be listed gets 7, as from `key`
abbrev pub begun_length : ℕ → ℕ
begun_length n = pick (ltb key_limit n) (slot_limit + 1) n

-- The script's begin on a slot of this length.
unfoldable pub begins : (slot : ℕ) → (script : List ℕ) → Outcome
begins n s =
    begin (begun_length n) (begin_line (begin_line_in s).line).channels (begin_line (begin_line_in s).line).mode (lent_of (begin_line_in s).lent)

-- Its calls after begin.
unfoldable pub calls_of : (script : List ℕ) → List Call
calls_of s = calls_in (begin_line_in s).lent (begin_line_in s).rest

-- All its writes.
unfoldable pub script_writes : (slot : ℕ) → (script : List ℕ) → List Write
script_writes n s = all_writes (begins n s) (calls_of s)
