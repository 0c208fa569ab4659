-- The two lists meet the premises by computing, and the statements give their slots and estimates.
use Prim.Native.Nat.{ℕ, zero, suc, ◌<◌, ◌≤◌}
use mathlib.Core.Path.{◌≡◌, refl, ap, ◌∙◌}
use mathlib.Core.Bool.{Bool, true, false, not}
use mathlib.Core.List.{List, [], ◌∷◌, map, flat_map}
use native.Mathlib.Omega.{arith}
use lib.ListN.{length, replicate}
use lib.Dec.{leb, eqb}
use lib.IntN.{ℤ, pos, negsuc}
use mir.Syntax.{w16}
use mir.Val.{SFits}
use borrow.Author.Tests.{leb-false, eqb-true, not-false}
use Rattle.layout.specs.Choice.{◌or◌}
use Rattle.layout.specs.Lists.{All, none, more, filter, any, sum, same, first_index}
use Rattle.layout.specs.Types.{Bytes, Slice, ContextFits}
use Rattle.layout.specs.Records.{be16, be32, be_z16, padded_size, context_bytes, channel_bytes, no_channel, file_header_bytes, header_bytes, cue_bytes, fillers, padded, size_of}
use Rattle.layout.specs.Records.{block_header, block_bytes, adpcm_bytes, adpcm_samples}
use Rattle.layout.specs.Refusals.{first_due}
use Rattle.layout.specs.declared.FrameContext.{FrameContext}
use Rattle.layout.proofs.Cases.{or_false}
use Rattle.writer.specs.Loading.{Side, Call, cue, push, finish, accepted, range_length, length_of, lex_lt, before, has, insert, points, points_of, bytes_of, same_z}
use Rattle.writer.specs.Loading.{data_size, state_due, no_addresses, blocks_due, rate_due, length_due, data_due, coefficients_due, early_due, room_due, push_order, filled, second, header_for}
use Rattle.writer.specs.Typed.{TypedBlock, TypedSide, Typed}
use Rattle.writer.specs.Calls.{begin_of, answer_of}
use Rattle.writer.specs.declared.Looping.TheVariants.{Auto}
use Rattle.writer.specs.declared.ChannelBlock.{ChannelBlock}
use Rattle.power_cut.specs.LoadingBook.{Book, begun, base_of, end_of_blocks, last_pushed, takes, enters, book_run, loop_block}
use Rattle.power_cut.specs.FinishedFile.{next_of, blocks_bytes, file_header, file_bytes}
use Rattle.power_cut.specs.PowerCut.{begin, estimates, FinishedFile, EstimateBound}
use Rattle.power_cut_cases.specs.MarkedForTheTable.{worked, recorded, file}
use Rattle.power_cut_cases.specs.RecordedFiles as files
use Rattle.power_cut_cases.specs.UsedOnLists.{SlotHolds, WorkedSlot, StereoSlot, WorkedEstimate, StereoEstimate}

-- ---- Typed arguments: a test that computes

abbrev wide : ℤ → Bool
wide (pos n) = leb 32768 n
wide (negsuc n) = leb 32768 n

fits_one : (z : ℤ) → wide z ≡ false → SFits w16 z
fits_one (pos n) h = record { sfits = omega (arith, leb-false 32768 n h) }
fits_one (negsuc n) h = record { sfits = omega (arith, leb-false 32768 n h) }

fits_all : (zs : List ℤ) → any wide zs ≡ false → All (SFits w16) zs
unfolding any
fits_all [] h = none
fits_all (z ∷ zs) h = let q = or_false (wide z) (any wide zs) h in more (fits_one z q.0) (fits_all zs q.1)

bytes_all : (bs : List ℕ) → any (leb 256) bs ≡ false → Bytes bs
unfolding any
bytes_all [] h i l = absurd (omega arith)
bytes_all (b ∷ bs) h zero l = leb-false 256 b (or_false (leb 256 b) (any (leb 256) bs) h).0
bytes_all (b ∷ bs) h (suc i) l = bytes_all bs (or_false (leb 256 b) (any (leb 256) bs) h).1 i (omega arith)

abbrev no_slice : List ℕ → Bool
no_slice bs = leb 9223372036854775808 (length bs) or any (leb 256) bs

slice_of : (bs : List ℕ) → no_slice bs ≡ false → Slice bs
slice_of bs h =
    let q = or_false (leb 9223372036854775808 (length bs)) (any (leb 256) bs) h in
    record { bytes = bytes_all bs q.1; long = leb-false 9223372036854775808 (length bs) q.0 }

abbrev no_context : FrameContext → Bool
no_context c = leb 65536 c.predictor_and_scale or wide c.last or wide c.oldest

context_of_lem : (c : FrameContext) → no_context c ≡ false → ContextFits c
context_of_lem c h =
    let p = or_false (leb 65536 c.predictor_and_scale) _ h in
    let q = or_false (wide c.last) (wide c.oldest) p.1 in
    record { scale = leb-false 65536 _ p.0; last = fits_one _ q.0; oldest = fits_one _ q.1 }

abbrev no_block : ChannelBlock → Bool
no_block b =
    leb 4294967296 b.rate or leb 18446744073709551616 b.length or not (eqb (length b.coefficients) 16) or any wide b.coefficients or leb 65536 b.gain or no_context b.context

block_of : (b : ChannelBlock) → no_block b ≡ false → TypedBlock b
block_of b h =
    let p = or_false (leb 4294967296 b.rate) _ h in
    let q = or_false (leb 18446744073709551616 b.length) _ p.1 in
    let r = or_false (not (eqb (length b.coefficients) 16)) _ q.1 in
    let t = or_false (any wide b.coefficients) _ r.1 in
    let u = or_false (leb 65536 b.gain) (no_context b.context) t.1 in
    record {
      rate = leb-false 4294967296 _ p.0;
      addresses = leb-false 18446744073709551616 _ q.0;
      coefficients = record { sixteen = eqb-true _ 16 (not-false _ r.0); each = fits_all _ t.0 };
      gain = leb-false 65536 _ u.0;
      context = context_of_lem _ u.1;
    }

abbrev no_side : Side → Bool
no_side s = no_block s.block or no_slice s.bytes

side_of_lem : (s : Side) → no_side s ≡ false → TypedSide s
side_of_lem s h = let q = or_false (no_block s.block) (no_slice s.bytes) h in record { block = block_of _ q.0; bytes = slice_of _ q.1 }

abbrev no_call : Call → Bool
no_call (cue c) = leb 18446744073709551616 c.start or leb 18446744073709551616 (range_length c.kind) or leb 4294967296 c.name
no_call (push p lent) = leb 18446744073709551616 p.channels or no_side p.left or no_side p.right or no_slice lent
no_call (finish lent) = no_slice lent

call_of_lem : (c : Call) → no_call c ≡ false → Typed c
call_of_lem (cue c) h =
    let p = or_false (leb 18446744073709551616 c.start) _ h in
    let q = or_false (leb 18446744073709551616 (range_length c.kind)) (leb 4294967296 c.name) p.1 in
    record { start = leb-false 18446744073709551616 _ p.0; range = leb-false 18446744073709551616 _ q.0; name = leb-false 4294967296 _ q.1 }
call_of_lem (push p lent) h =
    let a = or_false (leb 18446744073709551616 p.channels) _ h in
    let b = or_false (no_side p.left) _ a.1 in
    let c = or_false (no_side p.right) (no_slice lent) b.1 in
    (record { channels = leb-false 18446744073709551616 _ a.0; left = side_of_lem _ b.0; right = side_of_lem _ c.0 }, slice_of lent c.1)
call_of_lem (finish lent) h = slice_of lent h

calls_of_lem : (cs : List Call) → any no_call cs ≡ false → All Typed cs
unfolding any
calls_of_lem [] h = none
calls_of_lem (c ∷ cs) h = let q = or_false (no_call c) (any no_call cs) h in more {x = c} (call_of_lem c q.0) (calls_of_lem cs q.1)

-- ---- A list whose book computes

-- What computes of a list on a slot of this length: begin is accepted, its calls are typed, and what its book says of the file and to the estimate.
record Computes (n ch : ℕ) (cs : List Call) (bytes lengths : List ℕ) (written : ℕ) : Type 0 where
  begins : answer_of (begin n ch Auto (9 ∷ [])) ≡ accepted 0
  typed : any no_call cs ≡ false
  done : (book_run (begun n ch Auto) cs).finished ≡ true
  file : file_bytes (book_run (begun n ch Auto) cs) ≡ bytes
  end : end_of_blocks (book_run (begun n ch Auto) cs).blocks ≡ length bytes
  blocks : map (λ k. length_of k.push) (book_run (begun n ch Auto) cs).blocks ≡ lengths
  cues : points (book_run (begun n ch Auto) cs).cues ≡ written

computes : Computes 300 1 worked file (16 ∷ []) 1 × Computes 420 2 recorded files.stereo (16 ∷ 16 ∷ []) 7
unfolding filter any sum flat_map same first_index be16 be32 be_z16 padded_size context_bytes channel_bytes no_channel file_header_bytes header_bytes cue_bytes fillers padded size_of block_header block_bytes
    adpcm_bytes adpcm_samples first_due lex_lt before has insert points points_of bytes_of same_z data_size state_due no_addresses blocks_due rate_due length_due data_due coefficients_due early_due room_due
    push_order filled second header_for begin_of base_of end_of_blocks last_pushed takes enters book_run loop_block next_of blocks_bytes file_header file_bytes
computes = (
  record { begins = refl; typed = refl; done = refl; file = refl; end = refl; blocks = refl; cues = refl },
  record { begins = refl; typed = refl; done = refl; file = refl; end = refl; blocks = refl; cues = refl },
)

nine : Slice (9 ∷ [])
unfolding any
nine = slice_of (9 ∷ []) refl

module _ (n ch : ℕ) (few : ch < 18446744073709551616) (cs : List Call) {bytes lengths : List ℕ} {written : ℕ} (c : Computes n ch cs bytes lengths written) where
  holds : FinishedFile → SlotHolds n ch cs bytes
  unfolding FinishedFile
  holds theorem earlier s e slot l =
      let r = theorem earlier s ch (omega (arith, few)) Auto (9 ∷ []) nine (rw e c.begins) cs (calls_of_lem cs c.typed) (rw e c.done) slot l in
      let f : file_bytes (book_run (begun (length earlier) ch Auto) cs) ≡ bytes = ap (λ (m : ℕ). file_bytes (book_run (begun m ch Auto) cs)) e ∙ c.file in
      r.inside ∙ rw (← r.long, f)

  bounded : EstimateBound → (earlier : List ℕ) → Slice earlier → length earlier ≡ n → (m : ℕ) × (estimates ch lengths written ≡ accepted m) × (length bytes ≤ m)
  unfolding EstimateBound
  bounded theorem earlier s e =
      let b : ℕ → Book = λ m. book_run (begun m ch Auto) cs in
      let r = theorem earlier s ch (omega (arith, few)) Auto (9 ∷ []) nine (rw e c.begins) cs (calls_of_lem cs c.typed) in
      let f : estimates ch (map (λ k. length_of k.push) (b n).blocks) (points (b n).cues) ≡ accepted r.0 = rw e at r.1 in
      let g : end_of_blocks (b n).blocks ≤ r.0 = rw e at r.2 in
      (r.0, rw (c.blocks, c.cues) at f, omega (arith, c.end))

pub worked_slot : FinishedFile → WorkedSlot
unfolding WorkedSlot
worked_slot = holds 300 1 (omega arith) worked computes.0

pub stereo_slot : FinishedFile → StereoSlot
unfolding StereoSlot
stereo_slot = holds 420 2 (omega arith) recorded computes.1

pub worked_estimate : EstimateBound → WorkedEstimate
unfolding WorkedEstimate any
worked_estimate theorem = bounded 300 1 (omega arith) worked computes.0 theorem (replicate 300 170) (slice_of (replicate 300 170) refl) refl

pub stereo_estimate : EstimateBound → StereoEstimate
unfolding StereoEstimate any
stereo_estimate theorem = bounded 420 2 (omega arith) recorded computes.1 theorem (replicate 420 85) (slice_of (replicate 420 85) refl) refl
