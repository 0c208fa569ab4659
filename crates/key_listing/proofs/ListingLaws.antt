-- The lines from each stage on: the next one, and those after it; how long lines are; and how many fit.
use Rattle.std.proofs.Common.{Option, Some, None}
use Prim.Native.Nat.{ℕ, zero, suc, ◌+◌, ◌-◌, ◌<◌, ◌≤◌}
use mathlib.Core.Path.{◌≡◌, refl, ap, sym, ◌∙◌}
use mathlib.Core.List.{List, [], ◌∷◌, ◌++◌, flatten, append_assoc}
use native.Mathlib.Omega.{arith}
use native.Mathlib.Numerals.{add-one}
use lib.ListN.{length, take, drop, drop_of_length-le, length-append}
use lib.Seq.{drop-cons, get_or-take, length-take-le}
use lib.Dec.{leb}
use borrow.Author.Tests.{le-leb, leb-true}
use Rattle.layout.specs.Records.{Read, on, read_header, length_in}
use Rattle.layout.proofs.Cases.{by_cases}
use Rattle.layout.specs.declared.BlockHeader.{BlockHeader}
use Rattle.reader.specs.OpeningAndReading.{channel_in, offset_in, offsets_from}
use Rattle.reader.specs.CuesReadBack.{CueAnswer, first_cursor, cue_step}
use Rattle.reader.specs.declared.HpsReader.{HpsReader}
use Rattle.reader.specs.declared.CueIterator.{CueIterator}
use Rattle.key_listing.specs.declared.Stage.{Stage}
use Rattle.key_lines.specs.Lines.{column_bytes, loop_column, stop_line, head_line, block_line, loop_line, cue_line}
use Rattle.key_lines.proofs.ColumnLaws.{column-length}
use Rattle.key_listing.specs.MarkingKey.{on_cue, cue_calls, cue_lines, block_lines, opened_lines, lines_from}
use Rattle.key_listing.specs.Filling.{lines_fitting, lines_beyond, line_fitting, lines_after}
use Rattle.layout.specs.Refusals.{block_limit}

module _ (s : List ℕ) (r : HpsReader) where
  pub stop-rest : (n : ℕ) → lines_from s r (Stage.Stop n) ≡ stop_line n ∷ lines_from s r Stage.Done
  unfolding lines_from
  stop-rest n = refl

  pub done_rest : lines_from s r Stage.Done ≡ []
  unfolding lines_from
  done_rest = refl

  pub head-rest : lines_from s r Stage.Head ≡ head_line r ∷ lines_from s r (Stage.Blocks 0)
  unfolding lines_from opened_lines
  head-rest = refl

  -- ---- Blocks

  module _ (long : length r.offsets ≡ block_limit) (fit : r.blocks ≤ block_limit) (i : ℕ) where
    blocks_long : length (take r.blocks r.offsets) ≡ r.blocks
    blocks_long = let l : r.blocks ≤ length r.offsets = omega arith in length-take-le r.blocks r.offsets l

    pub blocks_past : r.blocks ≤ i → lines_from s r (Stage.Blocks i) ≡ lines_from s r (Stage.Cues cue_calls (first_cursor r))
    unfolding lines_from block_lines
    blocks_past h =
        let e : offsets_from r i ≡ [] = drop_of_length-le (take r.blocks r.offsets) {i = i} (omega (arith, blocks_long)) in
        ap (block_lines s r i) e

    next_offset_lem : i < r.blocks → offsets_from r i ≡ offset_in r i ∷ offsets_from r (i + 1)
    next_offset_lem h =
        drop-cons (take r.blocks r.offsets) i 0 (omega (arith, blocks_long))
        ∙ ap (λ (x : ℕ). x ∷ drop (suc i) (take r.blocks r.offsets)) (get_or-take r.blocks r.offsets i 0 h)
        ∙ ap (λ (n : ℕ). offset_in r i ∷ drop n (take r.blocks r.offsets)) (sym (add-one i))

    pub block_short : i < r.blocks → (n : ℕ) → read_header s (offset_in r i) ≡ Read.refused n → lines_from s r (Stage.Blocks i) ≡ []
    unfolding lines_from block_lines
    block_short h n e = ap (block_lines s r i) (next_offset_lem h) ∙ rw e

    pub block-rest : i < r.blocks → (h : BlockHeader) → read_header s (offset_in r i) ≡ Read.value h
        → lines_from s r (Stage.Blocks i) ≡ block_line (channel_in r 0).format i (offset_in r i) (length_in h) h.cues ∷ lines_from s r (Stage.Blocks (i + 1))
    unfolding lines_from block_lines
    block-rest l h e = ap (block_lines s r i) (next_offset_lem l) ∙ rw e

  -- ---- Cues

  pub cues-none : (c : CueIterator) → lines_from s r (Stage.Cues 0 c) ≡ []
  unfolding lines_from cue_lines
  cues-none c = refl

  module _ (n : ℕ) (c : CueIterator) (some : 0 < n) where
    one_more : n ≡ suc (n - 1)
    one_more = omega arith

    pub cues_refused : (k : ℕ) → (cue_step s r c).answer ≡ CueAnswer.refused k → lines_from s r (Stage.Cues n c) ≡ []
    unfolding lines_from cue_lines
    cues_refused k e = ap (λ (m : ℕ). cue_lines m s r c) one_more ∙ rw e

    pub cues_end : (cue_step s r c).answer ≡ CueAnswer.ended → lines_from s r (Stage.Cues n c) ≡ []
    unfolding lines_from cue_lines
    cues_end e = ap (λ (m : ℕ). cue_lines m s r c) one_more ∙ rw e

    pub cues-loop : (b : ℕ) → (cue_step s r c).answer ≡ CueAnswer.loop b
        → lines_from s r (Stage.Cues n c) ≡ loop_line b ∷ lines_from s r (Stage.Cues (n - 1) (cue_step s r c).after)
    unfolding lines_from cue_lines
    cues-loop b e = ap (λ (m : ℕ). cue_lines m s r c) one_more ∙ rw e

    pub cues-point : (b k : ℕ) → (cue_step s r c).answer ≡ CueAnswer.point b k
        → lines_from s r (Stage.Cues n c) ≡ cue_line b k ∷ lines_from s r (Stage.Cues (n - 1) (cue_step s r c).after)
    unfolding lines_from cue_lines
    cues-point b k e = ap (λ (m : ℕ). cue_lines m s r c) one_more ∙ rw e

-- ---- How long lines are

-- Every line has bytes, and no more than 60.
unfoldable pub Sized : List (List ℕ) → Type 0
Sized [] = Unit
Sized (l ∷ ls) = ((0 < length l) × (length l ≤ 60)) × Sized ls

sized_more : (l : List ℕ) (ls : List (List ℕ)) (n : ℕ) → length l ≡ n → 0 < n → n ≤ 60 → Sized ls → Sized (l ∷ ls)
unfolding Sized
sized_more l ls n e a b h = ((omega arith, omega arith), h)

sized_cue : (a : CueAnswer) (ls : List (List ℕ)) → Sized ls → Sized (on_cue a ls)
unfolding Sized
sized_cue (CueAnswer.refused n) ls h = tt
sized_cue CueAnswer.ended ls h = tt
sized_cue (CueAnswer.loop b) ls h = sized_more (loop_line b) ls 26 (simp (length-append, column-length)) (omega arith) (omega arith) h
sized_cue (CueAnswer.point b k) ls h = sized_more (cue_line b k) ls 37 (simp (length-append, column-length)) (omega arith) (omega arith) h

sized_cues : (n : ℕ) (s : List ℕ) (r : HpsReader) (c : CueIterator) → Sized (cue_lines n s r c)
unfolding Sized cue_lines
sized_cues zero s r c = tt
sized_cues (suc n) s r c = sized_cue (cue_step s r c).answer (cue_lines n s r (cue_step s r c).after) (sized_cues n s r (cue_step s r c).after)

sized_blocks : (s : List ℕ) (r : HpsReader) (i : ℕ) (os : List ℕ) → Sized (block_lines s r i os)
unfolding Sized block_lines
sized_blocks s r i [] = sized_cues cue_calls s r (first_cursor r)
sized_blocks s r i (o ∷ os) = of (read_header s o) (sized_blocks s r (i + 1) os)
  where
    of : (h : Read BlockHeader) → Sized (block_lines s r (i + 1) os)
        → Sized (on h (λ n. []) (λ h. block_line (channel_in r 0).format i o (length_in h) h.cues ∷ block_lines s r (i + 1) os))
    of (Read.refused n) z = tt
    of (Read.value h) z =
        sized_more (block_line (channel_in r 0).format i o (length_in h) h.cues) (block_lines s r (i + 1) os) 60
        (simp (length-append, column-length)) (omega arith) (omega arith) z

loop_width : (l : Option ℕ) → length (column_bytes (loop_column l)) ≡ 11
loop_width None = refl
loop_width (Some i) = column-length 11 i

pub sized : (s : List ℕ) (r : HpsReader) (stage : Stage) → Sized (lines_from s r stage)
unfolding Sized lines_from opened_lines
sized s r (Stage.Stop n) = sized_more (stop_line n) [] 16 (simp (length-append, column-length)) (omega arith) (omega arith) tt
sized s r Stage.Head =
    sized_more (head_line r) (block_lines s r 0 (offsets_from r 0)) 49 (simp (length-append, column-length, loop_width)) (omega arith) (omega arith)
    (sized_blocks s r 0 (offsets_from r 0))
sized s r (Stage.Blocks i) = sized_blocks s r i (offsets_from r i)
sized s r (Stage.Cues n c) = sized_cues n s r c
sized s r Stage.Done = tt

-- ---- How many fit

-- Those that fit, and those beyond, are all.
pub fitting_beyond : (room : ℕ) (ls : List (List ℕ)) → flatten ls ≡ lines_fitting room ls ++ flatten (lines_beyond room ls)
unfolding flatten lines_fitting lines_beyond
fitting_beyond room [] = refl
fitting_beyond room (l ∷ ls) =
    by_cases (leb (length l) room)
    (λ t. rw t (ap (λ (x : List ℕ). l ++ x) (fitting_beyond (room - length l) ls)
    ∙ sym (append_assoc l (lines_fitting (room - length l) ls) (flatten (lines_beyond (room - length l) ls)))))
    (λ t. rw t)

pub fitting_fits : (room : ℕ) (ls : List (List ℕ)) → length (lines_fitting room ls) ≤ room
unfolding lines_fitting
fitting_fits room [] = omega arith
fitting_fits room (l ∷ ls) =
    by_cases (leb (length l) room)
    (λ t. let h = leb-true (length l) room t in rw t (omega (arith, length-append l (lines_fitting (room - length l) ls), fitting_fits (room - length l) ls)))
    (λ t. rw t (omega arith))

-- Where the longest line fits and none is put, none is left.
pub none_left : (room : ℕ) (ls : List (List ℕ)) → Sized ls → 60 ≤ room → length (lines_fitting room ls) ≡ 0 → lines_beyond room ls ≡ []
unfolding Sized lines_fitting lines_beyond
none_left room [] z h e = refl
none_left room (l ∷ ls) z h e =
    let b = z.0.0 in
    let k = z.0.1 in
    let t = le-leb (length l) room (omega arith) in
    absurd (omega (arith, rw t at e, length-append l (lines_fitting (room - length l) ls)))

-- The first line, and as many as fit after it.
pub fitting_next : (room : ℕ) (ls : List (List ℕ))
    → lines_fitting room ls ≡ line_fitting room ls ++ lines_fitting (room - length (line_fitting room ls)) (lines_after room ls)
unfolding lines_fitting
fitting_next room [] = refl
fitting_next room (l ∷ ls) = by_cases (leb (length l) room) (λ t. rw t) (λ t. let z : room - 0 ≡ room = omega arith in rw (t, z, t))

pub beyond_next : (room : ℕ) (ls : List (List ℕ)) → lines_beyond room ls ≡ lines_beyond (room - length (line_fitting room ls)) (lines_after room ls)
unfolding lines_beyond
beyond_next room [] = refl
beyond_next room (l ∷ ls) = by_cases (leb (length l) room) (λ t. rw t) (λ t. let z : room - 0 ≡ room = omega arith in rw (t, z, t))

pub first_fits : (room : ℕ) (ls : List (List ℕ)) → length (line_fitting room ls) ≤ room
first_fits room [] = omega arith
first_fits room (l ∷ ls) = by_cases (leb (length l) room) (λ t. rw t (leb-true (length l) room t)) (λ t. rw t (omega arith))

-- Where not even the first is put, none is.
pub record Full (room : ℕ) (ls : List (List ℕ)) : Type 0 where
  pub put : lines_fitting room ls ≡ []
  pub left : lines_beyond room ls ≡ lines_after room ls

pub full : (room : ℕ) (ls : List (List ℕ)) → Sized ls → length (line_fitting room ls) ≡ 0 → Full room ls
unfolding Sized lines_fitting lines_beyond
full room [] z e = record { put = refl; left = refl }
full room (l ∷ ls) z e =
    by_cases (leb (length l) room)
    (λ t. absurd (omega (arith, rw t at e, z.0.0)))
    (λ t. record { put = rw t; left = rw t })
