-- What each kind of line says.
use Rattle.std.specs.Prelude.{ℕ, zero, suc, ◌+◌, ◌*◌, Bool, true, List, [], ◌∷◌, length, eqb, ℤ, pos}
use Rattle.std.specs.Option.{is_some, unwrap_or}
use Rattle.layout.specs.Choice.{pick, ◌and◌}
use Rattle.layout_number_or_zero.specs.NumberOrZero.{word_at}
use Rattle.script_words.specs.Texts.{word_from, word_count}
use Rattle.script_words.specs.Numbers.{decimal_of, small_of}
use Rattle.script_words.specs.Data.{is_data, bytes_said}
use Rattle.writer.specs.Loading.{Side, mode_of}
use Rattle.writer.specs.declared.CueKind.{CueKind}
use Rattle.writer.specs.declared.Cue.{Cue}
use Rattle.writer.specs.declared.ChannelBlock.{ChannelBlock}
use Rattle.layout.specs.declared.FrameContext.{FrameContext}
use Rattle.script_lines.specs.declared.kinds.Kind.{Kind}
use Rattle.script_lines.specs.declared.kinds.Kind.TheVariants as Kinds
use Rattle.script_lines.specs.declared.lines.BeginLine.{BeginLine}
use Rattle.script_lines.specs.declared.lines.PushLine.{PushLine}

-- ---- Kinds

-- A kind's place among the kinds.
abbrev pub place : Kind → ℕ
place Kinds.Nothing = 0
place Kinds.Begin = 1
place Kinds.Point = 2
place Kinds.Loop = 3
place Kinds.Range = 4
place Kinds.Push = 5
place Kinds.Channel = 6
place Kinds.Finish = 7
place Kinds.Lent = 8
place Kinds.Unknown = 9

-- Is a line's kind this one?
abbrev pub is_kind : (kind this : Kind) → Bool
is_kind k m = eqb (place k) (place m)

-- Four letters as a big-endian number.
abbrev pub letters : (a b c d : ℕ) → ℕ
letters a b c d = 256 * (256 * (256 * a + b) + c) + d

-- "a missing word or an unknown line": a line with a word missing or one too many is unknown
abbrev pub with_words : Kind → (count due : ℕ) → Kind
with_words k n m = pick (eqb n m) k Kinds.Unknown

-- The kind that a first word of four letters names, in a line of so many words: BEGN, CUEP, LOOP, CUER, PUSH, CHAN, FINI, LENT.
unfoldable pub name_said : (word count : ℕ) → Kind
name_said w n =
    pick (eqb w (letters 66 69 71 78)) (with_words Kinds.Begin n 3)
    (pick (eqb w (letters 67 85 69 80)) (with_words Kinds.Point n 3)
    (pick (eqb w (letters 76 79 79 80)) (with_words Kinds.Loop n 3)
    (pick (eqb w (letters 67 85 69 82)) (with_words Kinds.Range n 4)
    (pick (eqb w (letters 80 85 83 72)) (with_words Kinds.Push n 3)
    (pick (eqb w (letters 67 72 65 78)) (with_words Kinds.Channel n 24)
    (pick (eqb w (letters 70 73 78 73)) (with_words Kinds.Finish n 1)
    (pick (eqb w (letters 76 69 78 84)) (with_words Kinds.Lent n 2) Kinds.Unknown)))))))

-- What a line is, by its first word; a line with no word is nothing.
unfoldable pub line_kind : List ℕ → Kind
line_kind l =
    pick (eqb (word_count l) 0) Kinds.Nothing
    (pick (eqb (length (word_from l 0)) 4) (name_said (word_at (word_from l 0) 0) (word_count l)) Kinds.Unknown)

-- ---- Numbers

-- "Numbers over their type's range": those of u64, u32 and u16
abbrev pub most64 : ℕ
most64 = 18446744073709551615

abbrev pub most32 : ℕ
most32 = 4294967295

abbrev pub most16 : ℕ
most16 = 65535

-- A word as a decimal of at most max; 0 where it is none.
unfoldable pub number_at : List ℕ → (i max : ℕ) → ℕ
number_at l i max = unwrap_or (decimal_of max (word_from l i)) 0

-- Is it one?
unfoldable pub says_number : List ℕ → (i max : ℕ) → Bool
says_number l i max = is_some (decimal_of max (word_from l i))

-- A word as a decimal of -32,768 to 32,767; 0 where it is none.
unfoldable pub signed_at : List ℕ → (i : ℕ) → ℤ
signed_at l i = unwrap_or (small_of (word_from l i)) (pos 0)

unfoldable pub says_signed : List ℕ → (i : ℕ) → Bool
says_signed l i = is_some (small_of (word_from l i))

-- ---- Lines: what each says, and whether it says all

-- "`BEGN channels mode`", "0 Disabled, 1 Enabled, 2 Auto"
unfoldable pub begin_line : List ℕ → BeginLine
begin_line l = record { channels = number_at l 1 most64; mode = mode_of (number_at l 2 2) }

abbrev pub says_begin : List ℕ → Bool
says_begin l = says_number l 1 most64 and says_number l 2 2

-- A cue of this kind, whose name is this word.
unfoldable pub cue_named : List ℕ → CueKind → (name : ℕ) → Cue
cue_named l k i = record { start = number_at l 1 most64; kind = k; name = number_at l i most32 }

abbrev pub says_named : List ℕ → (name : ℕ) → Bool
says_named l i = says_number l 1 most64 and says_number l i most32

-- "`CUER start length name`"
unfoldable pub range_line : List ℕ → Cue
range_line l = cue_named l (CueKind.Range (number_at l 2 most64)) 3

abbrev pub says_range : List ℕ → Bool
says_range l = says_named l 3 and says_number l 2 most64

-- "`CUEP start name` · `LOOP start name` · `CUER start length name`"
unfoldable pub cue_said : List ℕ → Kind → Cue
cue_said l k = pick (is_kind k Kinds.Range) (range_line l) (pick (is_kind k Kinds.Loop) (cue_named l CueKind.Loop 2) (cue_named l CueKind.Point 2))

unfoldable pub says_cue : List ℕ → Kind → Bool
says_cue l k = pick (is_kind k Kinds.Range) (says_range l) (says_named l 2)

-- "`PUSH channels last`"
unfoldable pub push_line : List ℕ → PushLine
push_line l = record { channels = number_at l 1 most64; last = eqb (number_at l 2 1) 1 }

abbrev pub says_push : List ℕ → Bool
says_push l = says_number l 1 most64 and says_number l 2 1

-- "`LENT n`"
unfoldable pub lent_line : List ℕ → ℕ
lent_line l = number_at l 1 most64

abbrev pub says_lent : List ℕ → Bool
says_lent l = says_number l 1 most64

-- So many coefficients from a word on.
unfoldable pub coefficients_from : List ℕ → (i many : ℕ) → List ℤ
coefficients_from l i zero = []
coefficients_from l i (suc n) = signed_at l i ∷ coefficients_from l (suc i) n

-- Whether they are all good.
unfoldable pub says_coefficients : List ℕ → (i many : ℕ) → Bool
says_coefficients l i zero = true
says_coefficients l i (suc n) = says_signed l i and says_coefficients l (suc i) n

-- A CHAN line's context: ps s0 s1.
unfoldable pub context_of : List ℕ → FrameContext
context_of l = record { predictor_and_scale = number_at l 4 most16; last = signed_at l 5; oldest = signed_at l 6 }

abbrev pub says_context : List ℕ → Bool
says_context l = says_number l 4 most16 and says_signed l 5 and says_signed l 6

-- Its data, as text.
abbrev pub data_word : List ℕ → List ℕ
data_word l = word_from l 23

-- "`CHAN rate length gain ps s0 s1 c0 .. c15 HEX`": what it says of the channel beside its data
unfoldable pub channel_block : List ℕ → ChannelBlock
channel_block l =
    record { rate = number_at l 1 most32; length = number_at l 2 most64; coefficients = coefficients_from l 7 16; gain = number_at l 3 most16; context = context_of l }

-- Whether it says all.
unfoldable pub says_channel : List ℕ → Bool
says_channel l =
    says_number l 1 most32 and says_number l 2 most64 and says_number l 3 most16 and says_context l and says_coefficients l 7 16 and is_data (data_word l)

-- A channel of a push.
unfoldable pub side_said : List ℕ → Side
side_said l = record { block = channel_block l; bytes = bytes_said (data_word l) }
