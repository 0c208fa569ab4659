-- How long a listing can be: at most 131,075 lines of at most 60 bytes.
use Prim.Native.Nat.{ℕ, zero, suc, ◌+◌, ◌*◌, ◌≤◌}
use mathlib.Core.Path.{◌≡◌, refl}
use mathlib.Core.List.{List, [], ◌∷◌, flatten}
use native.Mathlib.Omega.{arith}
use lib.ListN.{length, length-append, length-take, length-drop}
use lib.Dec.{ltb}
use Rattle.layout.specs.Records.{Read, on, read_header, length_in}
use Rattle.layout.specs.Refusals.{key_limit, block_limit}
use Rattle.layout.specs.declared.BlockHeader.{BlockHeader}
use Rattle.layout.proofs.Cases.{by_cases}
use Rattle.reader.specs.OpeningAndReading.{Opened, opening, channel_in, offsets_from}
use Rattle.reader.specs.CuesReadBack.{CueAnswer, first_cursor, cue_step}
use Rattle.reader.specs.declared.HpsReader.{HpsReader}
use Rattle.reader.specs.declared.CueIterator.{CueIterator}
use Rattle.reader.proofs.OpenedLaws.{opened_readable}
use Rattle.key_lines.specs.Lines.{block_line}
use Rattle.key_listing.specs.MarkingKey.{on_cue, cue_calls, cue_lines, block_lines, opened_lines, on_opened, listing_lines, lines_from, listing}
use Rattle.key_listing.specs.declared.Stage.{Stage}
use Rattle.key_listing.proofs.ListingLaws.{Sized, sized}

flatten_most : (ls : List (List ℕ)) → Sized ls → length (flatten ls) ≤ 60 * length ls
unfolding Sized flatten
flatten_most [] z = omega arith
flatten_most (l ∷ ls) z = let h = z.0.1 in omega (arith, flatten_most ls z.1, length-append l (flatten ls))

-- ---- How many lines there are

count-cue : (a : CueAnswer) (ls : List (List ℕ)) → length (on_cue a ls) ≤ length ls + 1
count-cue (CueAnswer.refused n) ls = omega arith
count-cue CueAnswer.ended ls = omega arith
count-cue (CueAnswer.loop b) ls = omega arith
count-cue (CueAnswer.point b k) ls = omega arith

count-cues : (n : ℕ) (s : List ℕ) (r : HpsReader) (c : CueIterator) → length (cue_lines n s r c) ≤ n
unfolding cue_lines
count-cues zero s r c = omega arith
count-cues (suc n) s r c =
    let d = (cue_step s r c).after in
    omega (arith, count-cue (cue_step s r c).answer (cue_lines n s r d), count-cues n s r d)

count_blocks : (s : List ℕ) (r : HpsReader) (i : ℕ) (os : List ℕ) → length (block_lines s r i os) ≤ length os + cue_calls
unfolding block_lines
count_blocks s r i [] = count-cues cue_calls s r (first_cursor r)
count_blocks s r i (o ∷ os) = of (read_header s o) (count_blocks s r (i + 1) os)
  where
    of : (h : Read BlockHeader) → length (block_lines s r (i + 1) os) ≤ length os + cue_calls
        → length (on h (λ n. []) (λ h. block_line (channel_in r 0).format i o (length_in h) h.cues ∷ block_lines s r (i + 1) os)) ≤ length (o ∷ os) + cue_calls
    of (Read.refused n) m = omega arith
    of (Read.value h) m = omega arith

count-opened : (s : List ℕ) (o : Opened) → opening s ≡ o → length (on_opened s o) ≤ 1 + block_limit + cue_calls
unfolding opened_lines
count-opened s (Opened.refused n) e = omega arith
count-opened s (Opened.opened r) e =
    let few = (opened_readable s r e).blocks in
    let many : length (offsets_from r 0) ≤ r.blocks = simp (length-drop, length-take) (omega arith) in
    omega (arith, count_blocks s r 0 (offsets_from r 0))

count_lines : (s : List ℕ) → length (listing_lines s) ≤ 1 + block_limit + cue_calls
unfolding listing_lines
count_lines s =
    by_cases (ltb key_limit (length s))
    (λ t. rw t (omega arith))
    (λ t. rw t (count-opened s (opening s) refl))

-- ---- And bytes

pub listing-small : (s : List ℕ) (r : HpsReader) (stage : Stage) → lines_from s r stage ≡ listing_lines s → length (listing s) ≤ 60 * (1 + block_limit + cue_calls)
listing-small s r stage e = omega (arith, flatten_most (listing_lines s) (rw e at (sized s r stage)), count_lines s)
