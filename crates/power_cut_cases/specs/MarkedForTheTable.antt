-- Marked for the table (document 01): the marked cases, the worked example and each refusal, and empty pushes (document 02, Card 2), computed; one table, one
-- lemma (proofs/marked_cases).
use Rattle.std.specs.Prelude.{ℕ, zero, suc, ◌+◌, ◌≡◌, Bool, true, false, take, drop, replicate, ℤ, pos, negsuc, Option, Some, None}
use mathlib.Core.List.{List, [], ◌∷◌, ◌++◌, map, flat_map}
use Rattle.std.specs.Int.{w16}
use Rattle.std.proofs.Common.{of_z}
use Rattle.layout.specs.Choice.{pick}
use Rattle.layout.specs.Records.{on, format_number, read_header, length_in, address_to_byte_up, adpcm_samples, num_samples, zero_context}
use Rattle.layout.specs.declared.FrameContext.{FrameContext}
use Rattle.layout.specs.declared.DspFormat.TheVariants.{Adpcm, Pcm16, Pcm8}
use Rattle.layout.specs.declared.Channel.{Channel}
use Rattle.reader.specs.OpeningAndReading.{Opened, opening, BlockAnswer, block_read, Remaining, data_remaining}
use Rattle.reader.specs.CuesReadBack.{CueAnswer, cursor, point_of, first_cursor, CueStep, cue_step}
use Rattle.reader.specs.declared.HpsReader.{HpsReader}
use Rattle.writer.specs.WritesAndCuttingRule.{Write, carried}
use Rattle.writer.specs.Loading.{Side, Push, Call, Answer}
use Rattle.writer.specs.Estimate.{estimate_of}
use Rattle.writer.specs.declared.Looping.TheVariants.{Disabled, Enabled, Auto}
use Rattle.writer.specs.declared.CueKind.{CueKind}
use Rattle.writer.specs.declared.CueKind.TheVariants.{Point, Loop, Range}
use Rattle.writer.specs.declared.Cue.{Cue}
use Rattle.power_cut.specs.LoadingBook.{Book, begun, number_due, book_run, book_answers, loop_block, opening_of, cues_of}
use Rattle.power_cut.specs.FinishedFile.{file_bytes}
use Rattle.power_cut.specs.PowerCut.{begin, answers_of, all_writes, nth_cue}
use Rattle.power_cut_cases.specs.RecordedFiles as files
use Rattle.writer.specs.Calls.{answer_of}

-- A case: the numbers that the definitions give, and those of document 01.
pub record Case : Type 0 where
  pub got : List ℕ
  pub want : List ℕ

-- A row.
abbrev case : List ℕ → List ℕ → Case
case g w = record { got = g; want = w }

-- ---- Answers as numbers

-- A refusal by its number, told apart from every length and count.
abbrev stop : ℕ → ℕ
stop n = 9000000000000000 + n

-- A refusal, or the length given.
abbrev answer : Answer → ℕ
answer (Answer.refused n) = stop n
answer (Answer.accepted n) = n

-- A Loop is 0 and its start, a Point its name and start.
abbrev cue : CueAnswer → List ℕ
cue (CueAnswer.refused n) = stop n ∷ []
cue CueAnswer.ended = []
cue (CueAnswer.loop s) = 0 ∷ s ∷ []
cue (CueAnswer.point s n) = n ∷ s ∷ []

-- A list of cues.
unfoldable pub cues : List CueAnswer → List ℕ
cues [] = []
cues (c ∷ cs) = cue c ++ cues cs

-- The loop start, 512 for none.
abbrev loop_index : Option ℕ → ℕ
loop_index None = 512
loop_index (Some i) = i

-- A context: predictor and scale, the bits of the last samples.
abbrev context : FrameContext → List ℕ
context c = c.predictor_and_scale ∷ of_z w16 c.last ∷ of_z w16 c.oldest ∷ []

-- A channel, its fields in their order, signed ones as bits.
abbrev channel : Channel → List ℕ
channel c =
    pick c.looping 1 0 ∷ format_number c.format ∷ c.loop_address ∷ c.end_address ∷ c.current_address ∷ map (of_z w16) c.coefficients
    ++ (c.gain ∷ context c.context)

-- HEAD: rate, channels, blocks, loop start
abbrev head : Opened → List ℕ
head (Opened.refused n) = stop n ∷ []
head (Opened.opened r) = r.rate ∷ r.count ∷ r.blocks ∷ loop_index r.loop_start ∷ []

-- Both channels of an opening, and its first three offsets.
abbrev channels : Opened → List ℕ
channels (Opened.refused n) = stop n ∷ []
channels (Opened.opened r) = flat_map channel r.channels ++ take 3 r.offsets

-- BLCK: offset, length, samples, cues
abbrev blck : List ℕ → ℕ → List ℕ
blck s o = on (read_header s o) (λ n. stop n ∷ []) (λ h. o ∷ length_in h ∷ adpcm_samples (length_in h) ∷ h.cues ∷ [])

-- A block read: rate, format, coefficients, gain, length, context, start, data and position; a refusal's number and position.
abbrev part : BlockAnswer → List ℕ
part (BlockAnswer.refused n) = stop n ∷ []
part (BlockAnswer.refused_at n i) = stop n ∷ i ∷ []
part BlockAnswer.ended = []
part (BlockAnswer.gave rate f cs g n c start bytes i) = rate ∷ format_number f ∷ map (of_z w16) cs ++ (g ∷ n ∷ context c) ++ (start ∷ bytes) ++ (i ∷ [])

-- The addresses remaining.
abbrev left : Remaining → ℕ
left (Remaining.refused n) = stop n
left (Remaining.addresses n) = n

-- A cue call: its answer, and the block, place and base of the cursor after it.
abbrev step_in : CueStep → List ℕ
step_in t = cue t.answer ++ (t.after.block ∷ t.after.place ∷ t.after.base ∷ [])

-- The opening record, or that of a book where it is refused.
abbrev opened : Opened → HpsReader → HpsReader
opened (Opened.refused n) r = r
opened (Opened.opened r) s = r

-- ---- The runs

-- A cue.
abbrev at : ℕ → CueKind → ℕ → Cue
at s k n = record { start = s; kind = k; name = n }

-- A side at 32,000 with zeros.
abbrev side : ℕ → List ℕ → Side
side n bs = record { block = record { rate = 32000; length = n; coefficients = replicate 16 (pos 0); gain = 0; context = zero_context }; bytes = bs }

-- A side of no addresses and no data.
abbrev no_address : (rate : ℕ) → List ℤ → Side
no_address rate zs = record { block = record { rate = rate; length = 0; coefficients = zs; gain = 9; context = zero_context }; bytes = [] }

-- A mono push.
abbrev mono : ℕ → List ℕ → Bool → Push
mono n bs l = record { channels = 1; left = side n bs; right = side 0 []; last = l }

-- Eight bytes of data.
abbrev eight : List ℕ
eight = 0 ∷ 1 ∷ 2 ∷ 3 ∷ 4 ∷ 5 ∷ 6 ∷ 7 ∷ []

-- A 16-address block with a lent buffer.
abbrev block : Bool → Call
block l = Call.push (mono 16 eight l) (replicate 128 9)

-- "Input: mono, 32,000, Auto, Loop at 0, Point at 5, one 16-address block"
abbrev pub worked : List Call
worked = Call.cue (at 0 Loop 1) ∷ Call.cue (at 5 Point 2) ∷ block true ∷ Call.finish (replicate 128 9) ∷ []

-- "Two 16-address blocks: Point 13 in block 0, Point 14 in block 1, Loop 20 read back at 14."; with calls that are refused in between
abbrev two : List Call
two =
    Call.cue (at 14 Point 3) ∷ Call.cue (at 20 Loop 1) ∷ Call.cue (at 13 Point 2) ∷ Call.cue (at 13 Point 2) ∷ Call.cue (at 1 (Range 0) 2) ∷ Call.finish []
    ∷ block false ∷ Call.cue (at 1 Point 9) ∷ Call.finish [] ∷ block true ∷ block true ∷ Call.finish (replicate 127 9) ∷ Call.finish (replicate 128 9) ∷ Call.finish [] ∷ []

-- The book after begin, in a slot of 4,096 bytes.
abbrev empty : Book
empty = begun 4096 1 Auto

-- A push of no addresses at rate 0, with no lent buffer.
abbrev nothing : Call
nothing = Call.push (record { channels = 1; left = no_address 0 (replicate 16 (pos 7)); right = side 77 (1 ∷ 2 ∷ []); last = false }) []

-- The worked example with one before, between and after its calls.
abbrev marked : List Call
marked =
    nothing ∷ Call.cue (at 0 Loop 1) ∷ nothing ∷ Call.cue (at 5 Point 2) ∷ nothing ∷ nothing ∷ block true ∷ nothing ∷ Call.finish (replicate 128 9) ∷ nothing ∷ []

-- The book after these calls.
abbrev ended : List Call → Book
ended cs = book_run empty cs

-- Cues of one start, in an order of their own.
abbrev mixed : List Call
mixed = map Call.cue (at 5 (Range 7) 1 ∷ at 5 Loop 3 ∷ at 5 Point 9 ∷ at 4 (Range 9) 6 ∷ at 5 Point 2 ∷ at 5 (Range 3) 8 ∷ at 5 Loop 3 ∷ [])

-- Points at n, n - 1, .., 1.
unfoldable pub points_to : ℕ → List Call
points_to zero = []
points_to (suc n) = Call.cue (at (suc n) Point 7) ∷ points_to n

-- The number due for a push with this length of lent buffer, by the book.
abbrev pushed : Book → Push → ℕ → ℕ
pushed b p lent = number_due b (Call.push p (replicate lent 9))

-- A stereo push of zeros: the right side's rate, length, data and coefficients.
abbrev pair : (rate data_length : ℕ) → List ℕ → List ℤ → Push
pair rate n bs zs =
    record { channels = 2; left = side 16 eight; right = record { block = record { rate = rate; length = n; coefficients = zs; gain = 0; context = zero_context }; bytes = bs }; last = false }

-- A stereo push of these sides.
abbrev both : Side → Side → Push
both l r = record { channels = 2; left = l; right = r; last = false }

-- A mono push at this rate.
abbrev rated : ℕ → Push
rated n = record {
  channels = 1;
  left = record { block = record { rate = n; length = 16; coefficients = replicate 16 (pos 0); gain = 0; context = zero_context }; bytes = eight };
  right = side 0 [];
  last = false;
}

-- A context.
abbrev ctx : ℕ → ℤ → ℤ → FrameContext
ctx p l o = record { predictor_and_scale = p; last = l; oldest = o }

-- A mono push with these coefficients.
abbrev coded : List ℤ → Push
coded zs = record { channels = 1; left = record { block = record { rate = 32000; length = 16; coefficients = zs; gain = 0; context = zero_context }; bytes = eight }; right = side 0 []; last = false }

-- A mono push whose right side is of another rate, length and data.
abbrev odd_right : Push
odd_right =
    record {
      channels = 1;
      left = side 16 eight;
      right = record { block = record { rate = 5; length = 77; coefficients = replicate 16 (negsuc 3); gain = 9; context = ctx 1 (pos 2) (negsuc 5) }; bytes = 1 ∷ 2 ∷ [] };
      last = true;
    }

-- A book with one stereo block in a slot of 256 bytes.
abbrev one : Book
one = book_run (begun 256 2 Auto) (Call.push (pair 32000 16 eight (replicate 16 (pos 0))) (replicate 96 9) ∷ [])

-- One with one mono block.
abbrev single : Book
single = ended (block false ∷ [])

-- One with this many blocks of no cues, in a slot of 16,777,216 bytes.
abbrev many : ℕ → Book
many n =
    record { slot_length = 16777216; channels = 1; mode = Auto; cues = []; blocks = replicate n (record { push = mono 16 eight false; offset = 128; base = 0; cues = [] }); finished = false }

-- The left side of the recorded stereo file, with this gain, context and data.
abbrev left_side : (gain : ℕ) → FrameContext → List ℕ → Side
left_side g c bs = record {
  block = record {
    rate = 32000;
    length = 16;
    coefficients = (negsuc 0 ∷ pos 2 ∷ negsuc 2 ∷ pos 4 ∷ negsuc 4 ∷ pos 6 ∷ negsuc 6 ∷ pos 8 ∷ negsuc 8 ∷ pos 10 ∷ negsuc 10 ∷ pos 12 ∷ negsuc 12 ∷ pos 14 ∷ negsuc 14 ∷ negsuc 15 ∷ []);
    gain = g;
    context = c;
  };
  bytes = bs;
}

-- The right side.
abbrev right_side : (gain : ℕ) → FrameContext → List ℕ → Side
right_side g c bs = record {
  block = record {
    rate = 32000;
    length = 16;
    coefficients = (negsuc 32767 ∷ pos 32767 ∷ pos 256 ∷ negsuc 255 ∷ pos 1000 ∷ negsuc 999 ∷ pos 17 ∷ negsuc 16 ∷ pos 12345 ∷ negsuc 12344 ∷ pos 0 ∷ pos 1 ∷ negsuc 1 ∷ pos 300 ∷ negsuc 299
        ∷ pos 255 ∷ []);
    gain = g;
    context = c;
  };
  bytes = bs;
}

-- The calls behind the recorded stereo file.
abbrev pub recorded : List Call
recorded =
    Call.cue (at 3 (Range 7) 1) ∷ Call.cue (at 20 Loop 2) ∷ Call.cue (at 1 Point 3) ∷ Call.cue (at 2 Point 4) ∷ Call.cue (at 4 Point 5) ∷ Call.cue (at 5 Point 6) ∷ Call.cue (at 6 Point 7)
    ∷ Call.cue (at 15 Point 8)
    ∷ Call.push (record {
      channels = 2;
      left = left_side 258 (ctx 17 (negsuc 1) (pos 300)) (1 ∷ 18 ∷ 35 ∷ 52 ∷ 69 ∷ 86 ∷ 103 ∷ 120 ∷ []);
      right = right_side 772 (ctx 33 (pos 400) (negsuc 4)) (137 ∷ 154 ∷ 171 ∷ 188 ∷ 205 ∷ 222 ∷ 239 ∷ 240 ∷ []);
      last = false;
    }) (replicate 200 9)
    ∷ Call.push (record {
      channels = 2;
      left = left_side 1286 (ctx 50 (negsuc 699) (negsuc 7)) (15 ∷ 30 ∷ 45 ∷ 60 ∷ 75 ∷ 90 ∷ 105 ∷ 126 ∷ []);
      right = right_side 1800 (ctx 67 (pos 32767) (negsuc 32767)) (135 ∷ 150 ∷ 165 ∷ 180 ∷ 195 ∷ 210 ∷ 225 ∷ 255 ∷ []);
      last = true;
    }) (replicate 200 9)
    ∷ Call.finish (replicate 128 9) ∷ []

-- The book after them.
abbrev recorded_book : Book
recorded_book = book_run (begun 1000 2 Auto) recorded

-- The slot once all writes have taken.
unfoldable pub carry : List ℕ → List Write → List ℕ
carry s [] = s
carry s (w ∷ ws) = carry (carried s w) ws

-- ---- The worked file's bytes

-- Its channel.
abbrev worked_channel : List ℕ
worked_channel = (0 ∷ 1 ∷ 0 ∷ 0 ∷ 0 ∷ 0 ∷ 0 ∷ 2 ∷ 0 ∷ 0 ∷ 0 ∷ 15 ∷ 0 ∷ 0 ∷ 0 ∷ 2 ∷ []) ++ replicate 40 0

-- One filler.
abbrev filling : List ℕ
filling = 255 ∷ 255 ∷ 255 ∷ 255 ∷ 0 ∷ 0 ∷ 0 ∷ 0 ∷ []

-- What follows the count in the worked file, with this sample index in its cue.
abbrev after_count : (index : List ℕ) → List ℕ
after_count index =
    worked_channel ++ replicate 56 0
    ++ (0 ∷ 0 ∷ 0 ∷ 32 ∷ 0 ∷ 0 ∷ 0 ∷ 15 ∷ 0 ∷ 0 ∷ 0 ∷ 128 ∷ []) ++ replicate 16 0 ++ (1 ∷ 0 ∷ 0 ∷ 0 ∷ [])
    ++ index ++ (0 ∷ 0 ∷ 0 ∷ 1 ∷ []) ++ filling ++ filling ++ filling ++ eight ++ replicate 24 0

-- The worked file with these count bytes and this sample index.
abbrev file_with : (count index : List ℕ) → List ℕ
file_with count index = (32 ∷ 72 ∷ 65 ∷ 76 ∷ 80 ∷ 83 ∷ 84 ∷ 0 ∷ 0 ∷ 0 ∷ 125 ∷ 0 ∷ []) ++ count ++ after_count index

-- The worked file.
abbrev pub file : List ℕ
file = file_with (0 ∷ 0 ∷ 0 ∷ 1 ∷ []) (0 ∷ 0 ∷ 0 ∷ 5 ∷ [])

-- The same with index -1.
abbrev negative : List ℕ
negative = file_with (0 ∷ 0 ∷ 0 ∷ 1 ∷ []) (255 ∷ 255 ∷ 255 ∷ 255 ∷ [])

-- Its opening record.
abbrev reader : HpsReader
reader = opening_of (ended worked)

-- The opening record of the two blocks.
abbrev two_reader : HpsReader
two_reader = opening_of (ended two)

-- ---- The table

-- The cases.
unfoldable pub table : List Case
table =
    -- "Samples: 2→0, 3→1, 16→14, 17→14, 19→15, 32→28."
    case (map adpcm_samples (2 ∷ 3 ∷ 16 ∷ 17 ∷ 19 ∷ 32 ∷ [])) (0 ∷ 1 ∷ 14 ∷ 14 ∷ 15 ∷ 28 ∷ [])
    -- "Mono 131,072 addresses pass, 131,073 give 13."
    ∷ case (pushed (many 0) (mono 131072 (replicate 65536 7) true) 65568 ∷ pushed (many 0) (mono 131073 (replicate 65537 7) true) 65600 ∷ []) (0 ∷ 13 ∷ [])
    -- "Start 2,147,483,647 passes, one more gives 8."
    ∷ case (number_due empty (Call.cue (at 2147483647 Point 1)) ∷ number_due empty (Call.cue (at 2147483648 Point 1)) ∷ []) (0 ∷ 8 ∷ [])
    -- "Two 16-address blocks: Point 13 in block 0, Point 14 in block 1, Loop 20 read back at 14."; the answers by the book and by the program
    ∷ case (cues (cues_of (ended two))) (1 ∷ 13 ∷ 0 ∷ 14 ∷ 2 ∷ 14 ∷ [])
    ∷ case (map answer (book_answers empty two)) (0 ∷ 0 ∷ 0 ∷ 0 ∷ stop 8 ∷ stop 27 ∷ 0 ∷ stop 21 ∷ stop 28 ∷ 0 ∷ stop 26 ∷ stop 14 ∷ 320 ∷ stop 26 ∷ [])
    ∷ case (map answer (answers_of (begin 4096 1 Auto (0 ∷ [])).writer two)) (0 ∷ 0 ∷ 0 ∷ 0 ∷ stop 8 ∷ stop 27 ∷ 0 ∷ stop 21 ∷ stop 28 ∷ 0 ∷ stop 26 ∷ stop 14 ∷ 320 ∷ stop 26 ∷ [])
    -- "Index -1 at base 14 gives 13, at base 0 gives 18,446,744,073,709,551,615."
    ∷ case (cue (point_of 14 (record { sample_index = negsuc 0; id = 1 })) ++ cue (nth_cue negative reader (first_cursor reader) 1)) (1 ∷ 13 ∷ 1 ∷ 18446744073709551615 ∷ [])
    -- "Count bytes 0 0 1 0 give 3."; a format of 1 gives 4, a space of 33 gives 2, 191 and 7 bytes give 1
    ∷ case (head (opening (file_with (0 ∷ 0 ∷ 1 ∷ 0 ∷ []) (0 ∷ 0 ∷ 0 ∷ 5 ∷ []))) ++ head (opening (take 18 file ++ (0 ∷ 1 ∷ []))) ++ head (opening (33 ∷ drop 1 file))
    ++ head (opening (take 191 file)) ++ head (opening (take 7 file)))
    (stop 3 ∷ stop 4 ∷ stop 2 ∷ stop 1 ∷ stop 1 ∷ [])
    -- "Both channels' formats are checked, also in mono."; a looping field of 512 is true, and mono's second channel is zero in the record whatever the slot has there
    ∷ case (head (opening (take 74 file ++ (0 ∷ 1 ∷ []))) ++ head (opening (take 75 file))) (stop 4 ∷ stop 1 ∷ [])
    ∷ case (channels (opening (take 16 file ++ (2 ∷ 0 ∷ []) ++ take 54 (drop 18 file) ++ (0 ∷ 7 ∷ 0 ∷ 10 ∷ []) ++ replicate 52 9 ++ drop 128 file))) (channels (opening file))
    -- "Cues are ordered by start, kind in that order, range length, name. An equal cue is accepted and adds nothing.": their names
    ∷ case (map (λ c. c.name) (ended mixed).cues) (6 ∷ 2 ∷ 9 ∷ 3 ∷ 8 ∷ 1 ∷ [])
    -- "20 table holds 128 cues": the 128th passes, the 129th does not, an equal one does
    ∷ case (number_due (ended (points_to 127)) (Call.cue (at 128 Point 7)) ∷ number_due (ended (points_to 128)) (Call.cue (at 129 Point 7)) ∷ number_due (ended (points_to 128))
    (Call.cue (at 128 Point 7)) ∷ []) (0 ∷ 20 ∷ 0 ∷ [])
    -- "25 512 blocks pushed": the 512th passes, the 513th does not
    ∷ case (pushed (many 511) (mono 16 eight true) 64 ∷ pushed (many 512) (mono 16 eight true) 64 ∷ []) (0 ∷ 25 ∷ [])
    -- push's numbers 29, 15, 12, 11, 23, 24 in stereo, 22, 9, 10, 14 in mono
    ∷ case (pushed one (mono 16 eight false) 999 ∷ pushed one (pair 32001 16 eight (replicate 16 (pos 0))) 999 ∷ pushed one (pair 32000 17 eight (replicate 16 (pos 0))) 999
    ∷ pushed one (pair 32000 16 [] (replicate 16 (pos 0))) 999 ∷ pushed one (pair 32000 16 eight (replicate 16 (pos 1))) 999 ∷ pushed one (pair 32000 16 eight (replicate 16 (pos 0))) 999 ∷ [])
    (29 ∷ 15 ∷ 12 ∷ 11 ∷ 23 ∷ 24 ∷ [])
    ∷ case (pushed single (rated 32001) 999 ∷ pushed empty (rated 0) 999 ∷ pushed single (mono 1 (7 ∷ []) false) 999 ∷ pushed single (mono 16 eight true) 63
    ∷ pushed single (mono 16 eight true) 64 ∷ [])
    (22 ∷ 9 ∷ 10 ∷ 14 ∷ 0 ∷ [])
    -- 23 in mono, also of negative coefficients; the same ones pass
    ∷ case (pushed single (coded (replicate 16 (pos 1))) 999 ∷ pushed (ended (Call.push (coded (replicate 16 (negsuc 0))) (replicate 64 9) ∷ [])) (coded (replicate 16 (negsuc 1))) 999
    ∷ pushed (ended (Call.push (coded (replicate 16 (negsuc 0))) (replicate 64 9) ∷ [])) (coded (replicate 16 (negsuc 0))) 999 ∷ []) (23 ∷ 23 ∷ 0 ∷ [])
    -- "A push of length 0 in every channel, with no data and without the last mark, is now accepted" (document 02, Card 2): after 512 blocks; in stereo with
    -- other rates and coefficients, where 29 comes first; with data, with the mark, with another length in one channel or with data in one it is not
    ∷ case (pushed (many 512) (mono 0 [] false) 0 ∷ pushed (many 512) (mono 0 [] true) 0 ∷ pushed (many 512) (mono 0 (7 ∷ []) false) 0 ∷ []) (0 ∷ 25 ∷ 25 ∷ [])
    ∷ case (pushed one (both (no_address 0 (replicate 16 (pos 1))) (no_address 5 (replicate 16 (pos 2)))) 0 ∷ pushed one (mono 0 [] false) 0 ∷ pushed single (both (side 0 []) (side 0 [])) 0 ∷ [])
    (0 ∷ 29 ∷ 29 ∷ [])
    ∷ case (pushed one (both (side 0 []) (side 1 [])) 0 ∷ pushed one (both (side 0 []) (side 0 (7 ∷ []))) 0 ∷ pushed single (mono 0 [] true) 0 ∷ pushed single (mono 0 (7 ∷ []) false) 0 ∷ [])
    (12 ∷ 10 ∷ 10 ∷ 10 ∷ [])
    -- "it hands out no write and leaves the record alone, cues still open if they were": the answers by the book and by the program, and the worked file's bytes
    ∷ case (map answer (book_answers empty marked)) (0 ∷ 0 ∷ 0 ∷ 0 ∷ 0 ∷ 0 ∷ 0 ∷ stop 26 ∷ 224 ∷ stop 26 ∷ [])
    ∷ case (map answer (answers_of (begin 4096 1 Auto (0 ∷ [])).writer marked)) (0 ∷ 0 ∷ 0 ∷ 0 ∷ 0 ∷ 0 ∷ 0 ∷ stop 26 ∷ 224 ∷ stop 26 ∷ [])
    ∷ case (carry (replicate 300 170) (all_writes (begin 300 1 Auto (9 ∷ [])) marked)) (file ++ replicate 76 170)
    -- "Enabled with no Loop cue ..; it falls past a first block of 0 samples that isn't the last."; "unless Disabled": the loop block's index, the number of blocks for none
    ∷ case (loop_block (book_run (begun 4096 1 Enabled) (Call.push (mono 2 (7 ∷ []) false) (replicate 64 9) ∷ block true ∷ [])) ∷ loop_block (book_run (begun 4096 1 Disabled) worked) ∷ []) (1 ∷ 1 ∷ [])
    -- "Bytes for n addresses: ADPCM (n+1)/2 rounded down, PCM16 2n, PCM8 n."; "Samples for n addresses: n in PCM"
    ∷ case (address_to_byte_up Adpcm 3 ∷ address_to_byte_up Pcm16 3 ∷ address_to_byte_up Pcm8 3 ∷ num_samples Pcm16 3 ∷ num_samples Pcm8 17 ∷ num_samples Adpcm 17 ∷ []) (2 ∷ 6 ∷ 3 ∷ 3 ∷ 17 ∷ 14 ∷ [])
    -- "Order: 3, 7, 14."
    ∷ case (map answer (answer_of (begin 191 3 Auto []) ∷ answer_of (begin 191 1 Auto []) ∷ answer_of (begin 16777217 2 Auto []) ∷ answer_of (begin 192 2 Auto [])
    ∷ answer_of (begin 192 2 Auto (9 ∷ [])) ∷ answer_of (begin 16777216 2 Auto (9 ∷ [])) ∷ [])) (stop 3 ∷ stop 7 ∷ stop 7 ∷ stop 14 ∷ 0 ∷ 0 ∷ [])
    -- the worked example: its bytes, by the book and by the program's writes on a slot of 300 bytes; HEAD, BLCK, LOOP and CUEP
    ∷ case (file_bytes (ended worked)) file
    ∷ case (carry (replicate 300 170) (all_writes (begin 300 1 Auto (9 ∷ [])) worked)) (file ++ replicate 76 170)
    -- in mono the right side counts for nothing
    ∷ case (file_bytes (ended (Call.cue (at 0 Loop 1) ∷ Call.cue (at 5 Point 2) ∷ Call.push odd_right (replicate 128 9) ∷ Call.finish (replicate 128 9) ∷ []))) file
    ∷ case (head (opening file) ++ blck file 128) (32000 ∷ 1 ∷ 1 ∷ 0 ∷ 128 ∷ 16 ∷ 14 ∷ 1 ∷ [])
    ∷ case (cues (nth_cue file reader (first_cursor reader) 0 ∷ nth_cue file reader (first_cursor reader) 1 ∷ nth_cue file reader (first_cursor reader) 2 ∷ [])) (0 ∷ 0 ∷ 1 ∷ 5 ∷ [])
    -- its data; "block read's 1 comes with the moved position"; 6; past the last the end
    ∷ case (part (block_read file reader 0 0)) (32000 ∷ 0 ∷ replicate 16 0 ++ (0 ∷ 16 ∷ 0 ∷ 0 ∷ 0 ∷ 192 ∷ eight) ++ (1 ∷ []))
    ∷ case (part (block_read (take 199 file) reader 0 0) ++ part (block_read file reader 1 0) ++ part (block_read file reader 0 1) ++ part (block_read (take 159 file) reader 0 0))
    (stop 1 ∷ 1 ∷ stop 6 ∷ stop 1 ∷ 1 ∷ [])
    ∷ case (left (data_remaining file reader 0) ∷ left (data_remaining file reader 1) ∷ left (data_remaining (take 191 file) reader 0) ∷ []) (16 ∷ 0 ∷ stop 1 ∷ [])
    -- a refused cue call leaves the cursor: from block 0 past its one cue, the second header leaving the slot; in the whole slot; a call that gives the Loop reads no header
    ∷ case (step_in (cue_step (take 255 (file_bytes (ended two))) two_reader (cursor 0 1 0 false))) (stop 1 ∷ 0 ∷ 1 ∷ 0 ∷ [])
    ∷ case (step_in (cue_step (file_bytes (ended two)) two_reader (cursor 0 1 0 false))) (2 ∷ 14 ∷ 1 ∷ 1 ∷ 14 ∷ [])
    ∷ case (step_in (cue_step (take 255 (file_bytes (ended two))) two_reader (cursor 0 1 0 true))) (0 ∷ 14 ∷ 1 ∷ 0 ∷ 14 ∷ [])
    -- two stereo blocks, from the Rust: the bytes, by the book and by the program's writes; opening, a read of channel 1, the cues
    ∷ case (file_bytes recorded_book) files.stereo
    ∷ case (carry (replicate 420 85) (all_writes (begin 420 2 Auto (9 ∷ [])) recorded)) (files.stereo ++ replicate 4 85)
    ∷ case (head (opening files.stereo) ++ channels (opening files.stereo)) (32000 ∷ 2 ∷ 2 ∷ 1 ∷ 1 ∷ 0 ∷ 2 ∷ 31 ∷ 2 ∷ 65535 ∷ 2 ∷ 65533 ∷ 4 ∷ 65531 ∷ 6 ∷ 65529 ∷ 8 ∷ 65527 ∷ 10 ∷ 65525 ∷ 12
    ∷ 65523 ∷ 14 ∷ 65521 ∷ 65520 ∷ 258 ∷ 17 ∷ 65534 ∷ 300 ∷ 1 ∷ 0 ∷ 2 ∷ 31 ∷ 2 ∷ 32768 ∷ 32767 ∷ 256 ∷ 65280 ∷ 1000 ∷ 64536 ∷ 17 ∷ 65519 ∷ 12345 ∷ 53191 ∷ 0 ∷ 1 ∷ 65534 ∷ 300 ∷ 65236 ∷ 255
    ∷ 772 ∷ 33 ∷ 400 ∷ 65531 ∷ 128 ∷ 288 ∷ 0 ∷ [])
    ∷ case (part (block_read files.stereo (opening_of recorded_book) 1 1)) (32000 ∷ 0 ∷ 32768 ∷ 32767 ∷ 256 ∷ 65280 ∷ 1000 ∷ 64536 ∷ 17 ∷ 65519 ∷ 12345 ∷ 53191 ∷ 0 ∷ 1 ∷ 65534 ∷ 300 ∷ 65236
    ∷ 255 ∷ 772 ∷ 16 ∷ 67 ∷ 32767 ∷ 32768 ∷ 384 ∷ 135 ∷ 150 ∷ 165 ∷ 180 ∷ 195 ∷ 210 ∷ 225 ∷ 255 ∷ 2 ∷ [])
    ∷ case (cues (cues_of recorded_book)) (1 ∷ 1 ∷ 2 ∷ 2 ∷ 3 ∷ 3 ∷ 4 ∷ 4 ∷ 5 ∷ 5 ∷ 6 ∷ 6 ∷ 0 ∷ 14 ∷ 7 ∷ 15 ∷ [])
    -- PCM16 and PCM8, from the Rust: "Channel 1's data starts P(bytes) after channel 0's, bytes counted in channel 1's own format."
    ∷ case (head (opening files.pcm16) ++ part (block_read files.pcm16 (opened (opening files.pcm16) reader) 1 0))
    (32000 ∷ 2 ∷ 1 ∷ 512 ∷ 32000 ∷ 25 ∷ 0 ∷ 0 ∷ 0 ∷ 0 ∷ 0 ∷ 0 ∷ 0 ∷ 0 ∷ 0 ∷ 0 ∷ 0 ∷ 0 ∷ 0 ∷ 0 ∷ 0 ∷ 0 ∷ 0 ∷ 17 ∷ 0 ∷ 0 ∷ 0 ∷ 192 ∷ 33 ∷ 34 ∷ 103 ∷ 104 ∷ 105 ∷ 106 ∷ 107 ∷ 108 ∷ 109 ∷ 110
    ∷ 111 ∷ 112 ∷ 113 ∷ 114 ∷ 115 ∷ 116 ∷ 117 ∷ 1 ∷ [])
    ∷ case (head (opening files.pcm8) ++ part (block_read files.pcm8 (opened (opening files.pcm8) reader) 1 0))
    (32000 ∷ 2 ∷ 1 ∷ 512 ∷ 32000 ∷ 10 ∷ 0 ∷ 0 ∷ 0 ∷ 0 ∷ 0 ∷ 0 ∷ 0 ∷ 0 ∷ 0 ∷ 0 ∷ 0 ∷ 0 ∷ 0 ∷ 0 ∷ 0 ∷ 0 ∷ 0 ∷ 17 ∷ 0 ∷ 0 ∷ 0 ∷ 224 ∷ 101 ∷ 102 ∷ 103 ∷ 104 ∷ 105 ∷ 106 ∷ 107 ∷ 108 ∷ 109 ∷ 110
    ∷ 111 ∷ 112 ∷ 113 ∷ 114 ∷ 115 ∷ 116 ∷ 117 ∷ 118 ∷ 119 ∷ 120 ∷ 121 ∷ 122 ∷ 123 ∷ 124 ∷ 125 ∷ 126 ∷ 127 ∷ 128 ∷ 129 ∷ 130 ∷ 131 ∷ 132 ∷ 133 ∷ 134 ∷ 1 ∷ [])
    -- the estimate: "128 + Σ(32 + channels × P(bytes)) + 32p"; "Order: 3, 5, then per length 10, 13."; 512 and 513 lengths, p = 4,294,967,295
    ∷ case (map answer (estimate_of 1 (16 ∷ []) 1 ∷ estimate_of 2 (16 ∷ 17 ∷ []) 3 ∷ estimate_of 1 [] 4294967295 ∷ estimate_of 1 (replicate 512 131072) 0 ∷ [])) (224 ∷ 416 ∷ 137438953568 ∷ 33570944 ∷ [])
    ∷ case (map answer (estimate_of 3 (replicate 513 0) 0 ∷ estimate_of 1 (replicate 513 0) 0 ∷ estimate_of 1 (131073 ∷ 1 ∷ []) 0 ∷ estimate_of 2 (1 ∷ 65537 ∷ []) 0 ∷ estimate_of 2 (65537 ∷ []) 0
    ∷ estimate_of 1 (131072 ∷ []) 0 ∷ estimate_of 2 (65536 ∷ []) 0 ∷ [])) (stop 3 ∷ stop 5 ∷ stop 13 ∷ stop 10 ∷ stop 13 ∷ 65696 ∷ 65696 ∷ [])
    ∷ []

-- Every case gives what document 01 says.
unfoldable pub MarkedCases : Type 0
MarkedCases = map (λ c. c.got) table ≡ map (λ c. c.want) table
