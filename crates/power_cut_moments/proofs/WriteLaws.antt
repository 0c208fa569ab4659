-- The writes of a loading: each lies in the slot and holds bytes.
use Prim.Native.Nat.{ℕ, zero, suc, ◌+◌, ◌-◌, ◌/◌, ◌%◌, ◌<◌, ◌≤◌}
use mathlib.Core.Path.{◌≡◌, refl}
use mathlib.Core.Bool.{Bool, true, false}
use mathlib.Core.List.{List, [], ◌∷◌, ◌++◌, flat_map}
use native.Mathlib.Omega.{arith}
use native.Mathlib.Nat.{le_of_suc-le-suc, not-suc-le-zero}
use lib.ListN.{length, drop, replicate, length-drop}
use lib.Dec.{eqb, ltb, leb}
use borrow.Author.Tests.{leb-false}
use lib.IntN.{ℤ}
use Rattle.layout.specs.Choice.{pick, ◌or◌}
use Rattle.layout.specs.Lists.{All, none, more, any, filter}
use Rattle.layout.specs.Types.{Bytes}
use Rattle.layout.specs.Records.{padded_size, adpcm_samples, magic, be16, be32, be_z16, context_bytes, channel_bytes, file_header_bytes, header_bytes, cue_bytes, padded}
use Rattle.layout.specs.Records.{block_header, block_bytes, file_header_size}
use Rattle.layout.specs.declared.FrameContext.{FrameContext}
use Rattle.layout.specs.declared.Channel.{Channel}
use Rattle.layout.specs.declared.CuePoint.{CuePoint}
use Rattle.layout.proofs.Cases.{by_cases, or_false}
use Rattle.writer.specs.WritesAndCuttingRule.{Write, write}
use Rattle.writer.specs.Loading.{Push, Call, length_of, empty_push, header_for, bytes_of, begin_writes, header_writes, points, points_of}
use Rattle.writer.specs.Typed.{Typed, TypedPush}
use Rattle.writer.specs.declared.Cue.{Cue}
use Rattle.writer.proofs.CueLaws.{points-few, points-length}
use Rattle.power_cut.specs.LoadingBook.{Book, taken_by, base_of, takes, enters, number_due, book_after, book_run}
use Rattle.power_cut.specs.FinishedFile.{file_header}
use Rattle.power_cut.proofs.Invariant.{Invariant}
use Rattle.power_cut.proofs.RecordOf.{hands_out, book_writes, book_written}
use Rattle.power_cut.proofs.Keeping.{call_kept}
use Rattle.layout.proofs.ListLaws.{all_append, all_each}
use Rattle.power_cut.proofs.CutRun.{run_written, header-first, header-second, header_third}
use Rattle.power_cut.proofs.SlotRun.{same_run}
use Rattle.power_cut_moments.specs.Moments.{Inside}
use Rattle.power_cut_moments.proofs.ByteLaws.{bytes_take, bytes_drop}

-- ---- Bytes

abbrev Small : ℕ → Type 0
Small x = x < 256

-- a list of literals, by one test
smalls : (l : List ℕ) → any (λ x. leb 256 x) l ≡ false → All Small l
unfolding any
smalls [] e = none
smalls (x ∷ xs) e = let h = or_false (leb 256 x) _ e in more (leb-false 256 x h.0) (smalls xs h.1)

all_replicate : (n x : ℕ) → Small x → All Small (replicate n x)
all_replicate zero x h = none
all_replicate (suc n) x h = more h (all_replicate n x h)

all_flat_map : {A : Type 0} (f : A → List ℕ) → ((x : A) → All Small (f x)) → (xs : List A) → All Small (flat_map f xs)
unfolding flat_map
all_flat_map f h [] = none
all_flat_map f h (x ∷ xs) = all_append (h x) (all_flat_map f h xs)

to_bytes : {l : List ℕ} → All Small l → Bytes l
to_bytes none i h = absurd (not-suc-le-zero h)
to_bytes (more q a) zero h = q
to_bytes (more q a) (suc i) h = to_bytes a i (le_of_suc-le-suc h)

from_bytes : (l : List ℕ) → Bytes l → All Small l
from_bytes [] b = none
from_bytes (x ∷ xs) b = more (b 0 (omega arith)) (from_bytes xs (λ i h. b (suc i) (omega arith)))

-- ---- The records

low : (x : ℕ) → Small (x % 256)
low x = omega arith

small_16 : (x : ℕ) → All Small (be16 x)
unfolding be16
small_16 x = more (low (x / 256)) (more (low x) none)

small_32 : (x : ℕ) → All Small (be32 x)
unfolding be32
small_32 x = more (low (x / 16777216)) (more (low (x / 65536)) (more (low (x / 256)) (more (low x) none)))

small-context : (c : FrameContext) → All Small (context_bytes c)
unfolding context_bytes be_z16
small-context c = all_append (all_append (small_16 _) (small_16 _)) (small_16 _)

small_z : (z : ℤ) → All Small (be_z16 z)
unfolding be_z16
small_z z = small_16 _

small-channel : (c : Channel) → All Small (channel_bytes c)
unfolding channel_bytes
small-channel c =
    all_append (all_append (all_append (all_append (all_append (all_append (all_append (small_16 _) (small_16 _)) (small_32 _)) (small_32 _)) (small_32 _)) (all_flat_map be_z16 small_z _))
    (small_16 _)) (small-context _)

small-file : (rate count : ℕ) (l r : Channel) → All Small (file_header_bytes rate count l r)
unfolding file_header_bytes any
small-file rate count l r = all_append (smalls magic refl) (all_append (small_32 rate) (all_append (small_32 count) (all_append (small-channel l) (small-channel r))))

small-cue : (c : CuePoint) → All Small (cue_bytes c)
unfolding cue_bytes
small-cue c = all_append (small_32 _) (small_32 _)

small_data : (ds : List (List ℕ)) → All (All Small) ds → All Small (flat_map padded ds)
unfolding flat_map padded
small_data [] none = none
small_data (d ∷ ds) (more q a) = all_append (all_append q (all_replicate (padded_size (length d) - length d) 0 (omega arith))) (small_data ds a)

small-block : (next n : ℕ) (l r : FrameContext) (ps : List CuePoint) (ds : List (List ℕ)) → length ps < 256 → All (All Small) ds → All Small (block_bytes next n l r ps ds)
unfolding block_bytes header_bytes block_header any
small-block next n l r ps ds few a =
    all_append
    (all_append (all_append (all_append (all_append (all_append (all_append (all_append (small_32 _) (small_32 _)) (small_32 _)) (small-context l)) (smalls (0 ∷ 0 ∷ []) refl))
    (small-context r)) (smalls (0 ∷ 0 ∷ []) refl)) (more few (smalls (0 ∷ 0 ∷ 0 ∷ []) refl)))
    (all_append (all_flat_map cue_bytes small-cue ps) (all_append (all_flat_map cue_bytes small-cue _) (small_data ds a)))

-- ---- The calls

push_bytes_lem : (next b n : ℕ) (cs : List Cue) (p : Push) → points cs < 256 → TypedPush p → All Small (bytes_of next b n cs p)
unfolding bytes_of
push_bytes_lem next b n cs p few t =
    small-block next _ _ _ (points_of b n cs) _ (rw (points-length b n cs) few)
    (by_cases (eqb p.channels 2) (λ q. rw q (more left (more (from_bytes _ t.right.bytes.bytes) none))) (λ q. rw q (more left none)))
  where
    left : All Small p.left.bytes
    left = from_bytes _ t.left.bytes.bytes

filter-few : {A : Type 0} (f : A → Bool) (xs : List A) → length (filter f xs) ≤ length xs
unfolding filter
filter-few f [] = omega arith
filter-few f (x ∷ xs) = let h = filter-few f xs in by_cases (f x) (λ q. rw q (omega arith)) (λ q. rw q (omega arith))

taken_few : (b : Book) (p : Push) → Invariant b → points (takes b p) < 256
unfolding takes
taken_few b p h =
    let all : List Cue = drop (taken_by b.blocks) b.cues in
    omega (arith, points-few (takes b p), filter-few (λ (c : Cue). p.last or ltb c.start (base_of b.blocks + adpcm_samples (length_of p))) all, length-drop (taken_by b.blocks) b.cues, h.few)

abbrev Written : Write → Type 0
Written w = Bytes w.bytes

header_bytes_lem : (b : Book) → Bytes (file_header b)
unfolding file_header header_for
header_bytes_lem b = to_bytes (small-file _ _ _ _)

handed_bytes : (b : Book) (c : Call) → Typed c → Invariant b → All Written (hands_out b c)
unfolding hands_out enters
handed_bytes b (Call.cue c) t h = none
handed_bytes b (Call.push p lent) t h =
    by_cases (empty_push p) (λ e. rw e none) (λ e. rw e (more (to_bytes (push_bytes_lem _ _ _ (takes b p) p (taken_few b p h) t.0)) none))
handed_bytes b (Call.finish lent) t h =
    let f = file_header b in
    let h = header_bytes_lem b in
    more (bytes_take 15 f h) (more (bytes_take 112 (drop 16 f) (bytes_drop 16 f h)) (more (bytes_take 1 (drop 15 f) (bytes_drop 15 f h)) none))

call_bytes : (b : Book) (c : Call) → Typed c → Invariant b → All Written (book_writes b c)
call_bytes b c t h = by_cases (eqb (number_due b c) 0) (λ q. rw q (handed_bytes b c t h)) (λ q. rw q none)

run_bytes : (b : Book) (cs : List Call) → All Typed cs → Invariant b → All Written (book_written b cs)
unfolding book_written
run_bytes b [] t h = none
run_bytes b (c ∷ cs) (more t ts) h = all_append (call_bytes b c t h) (run_bytes (book_after b c) cs ts (call_kept b c t h))

-- ---- Each lies in the slot

abbrev Ends : ℕ → Write → Type 0
Ends n w = w.offset + length w.bytes ≤ n

header-ends : (f : Bool) (h : List ℕ) {n : ℕ} → file_header_size ≤ n → All (Ends n) (pick f (header_writes h) [])
header-ends true h wide = more (header-first h wide).inside (more (header-second h wide 0).inside (more (header_third h wide).inside none))
header-ends false h wide = none

run_ends : (b : Book) (cs : List Call) → All Typed cs → Invariant b → b.finished ≡ false → All (Ends b.slot_length) (book_written b cs)
run_ends b cs t h d =
    let w = run_written b cs t h d in
    let e = (same_run b cs).slot in
    rw w.all (all_append (rw e at (all_each (λ x a. a.inside) w.away)) (header-ends (book_run b cs).finished (file_header (book_run b cs)) (omega (arith, h.wide))))

insides : {n : ℕ} {ws : List Write} → All (Ends n) ws → All Written ws → All (Inside n) ws
insides none none = none
insides (more e es) (more w ws) = more (record { ends = e; bytes = w }) (insides es ws)

pub run_inside : (b : Book) (cs : List Call) → All Typed cs → Invariant b → b.finished ≡ false → All (Inside b.slot_length) (begin_writes ++ book_written b cs)
unfolding any
run_inside b cs t h d =
    let wide = h.wide in
    let first : Inside b.slot_length (write 15 (0 ∷ [])) = record { ends = omega arith; bytes = to_bytes (smalls (0 ∷ []) refl) } in
    more first (insides (run_ends b cs t h d) (run_bytes b cs t h))
