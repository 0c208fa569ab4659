-- The slot's first eight bytes at a cut, and the refusal that they make.
use Prim.Native.Nat.{ℕ, ◌+◌, ◌<◌, ◌≤◌}
use mathlib.Core.Path.{◌≡◌, refl, ap, ◌∙◌}
use mathlib.Core.Bool.{true, false}
use mathlib.Core.List.{List, [], ◌∷◌, ◌++◌, append-nil}
use mathlib.Core.Logic.{◌⊎◌, inl, inr, ⊎_elim}
use native.Mathlib.Omega.{arith}
use lib.ListN.{length, take, drop, replicate, length-append, length-take}
use lib.Seq.{take-append-le, take-take, take_at}
use Rattle.layout.specs.Lists.{All, same, put}
use Rattle.layout.specs.Types.{Bytes}
use Rattle.layout.specs.Records.{magic, file_header_bytes, file_header_size}
use Rattle.layout.proofs.PutLaws.{put-length}
use Rattle.layout.proofs.Cases.{by_cases}
use Rattle.reader.proofs.RefusalLaws.{refusal}
use Rattle.writer.specs.WritesAndCuttingRule.{Write, write, CutLeaves, torn, old, new, took}
use Rattle.writer.specs.Loading.{Call, begin_writes, header_for, header_writes}
use Rattle.writer.specs.Typed.{Typed}
use Rattle.power_cut.specs.LoadingBook.{Book, begun, book_run}
use Rattle.power_cut.specs.FinishedFile.{file_header}
use Rattle.power_cut.specs.PowerCut.{opens}
use Rattle.power_cut.specs.WhichRefusal.{refusal_by, RefusalAt, CutTo, Refusals, WhichRefusal}
use Rattle.power_cut.proofs.Invariant.{Invariant}
use Rattle.power_cut.proofs.RecordOf.{book_written}
use Rattle.power_cut.proofs.Follow.{begin-accepted}
use Rattle.layout.proofs.ListLaws.{all_each}
use Rattle.power_cut.proofs.ElementLaws.{bytes_append, bytes_zeros}
use Rattle.power_cut.proofs.CutLaws.{Away, away_part, away_cut, alike_take, carried_all, Split, within, beyond, cut_split, cut_all, cut_join, taken_few}
use Rattle.power_cut.proofs.CutRun.{Written, run_kept, run_written, header-second, header_third, cut_law}
use Rattle.power_cut.proofs.SlotLaws.{header-length}
use Rattle.power_cut.proofs.SlotRun.{same_run}
use Rattle.power_cut.proofs.Whole.{kept0, writes-is}

-- ---- The header's writes, after others that leave the first bytes alone

-- The header's first write is under way, and has left these bytes and seven zeros.
abbrev torn_to : (s : List ℕ) (vs : List Write) (eight : List ℕ) → List ℕ
torn_to s vs eight = put (carried_all s vs) 0 (eight ++ replicate 7 0)

torn_starts : (s : List ℕ) (vs : List Write) (eight : List ℕ) → length eight ≡ 8 → take 8 (torn_to s vs eight) ≡ eight
torn_starts s vs eight l =
    let g : List ℕ = eight ++ replicate 7 0 in
    take-append-le 8 g (drop (0 + length g) (carried_all s vs)) (omega (arith, length-append eight (replicate 7 0))) ∙ take_at eight (replicate 7 0) 8 l

module _ (h : List ℕ) (lh : length h ≡ file_header_size) where
  -- the first has taken: a cut of the other two
  header_cut : {s t : List ℕ} {k : ℕ} → file_header_size ≤ length s → CutLeaves s (header_writes h) k t → 0 < k → take 8 t ≡ take 8 h
  header_cut wide (torn g b e l) q = absurd (omega arith)
  header_cut wide (old e) q = absurd (omega arith)
  header_cut wide (new e) q = absurd (omega (arith, length-take 15 h))
  header_cut {s} wide (took l) q =
      let w : file_header_size ≤ length (put s 0 (take 15 h)) = omega (arith, put-length s 0 (take 15 h) (omega (arith, length-take 15 h))) in
      let two = away_part 0 15 (omega arith) (omega arith) _ (header-second h w 0) in
      alike_take 8 (away_cut refl (All.more two (All.more (header_third h w) All.none)) l) (omega arith)
      ∙ take-append-le 8 (take 15 h) (drop (0 + length (take 15 h)) s) (omega (arith, length-take 15 h)) ∙ take-take 8 15 h (omega arith)

  module _ (s : List ℕ) (vs : List Write) (away : All (Away 0 15 (length s)) vs) where
    -- the first has not been reached
    header-ahead : {t : List ℕ} {k : ℕ} → Split s vs (header_writes h) k t → k < length vs → take 8 t ≡ take 8 s
    header-ahead (within l) q = alike_take 8 (away_cut refl away l) (omega arith)
    header-ahead (beyond m e l) q = absurd (omega arith)

    header_taken : {t : List ℕ} {k : ℕ} → file_header_size ≤ length s → Split s vs (header_writes h) k t → length vs < k → take 8 t ≡ take 8 h
    header_taken wide (within l) q = absurd (omega (arith, taken_few l))
    header_taken wide (beyond m e l) q = header_cut (omega (arith, (away_cut refl away (cut_all s vs)).long)) l (omega arith)

  -- the first is under way
  torn_cut : (s : List ℕ) (vs : List Write) (eight : List ℕ) → Bytes eight → length eight ≡ 8 → CutLeaves s (vs ++ header_writes h) (length vs) (torn_to s vs eight)
  torn_cut s vs eight b l =
      let n = length-append eight (replicate 7 0) in
      cut_join vs (torn (eight ++ replicate 7 0) (bytes_append eight (replicate 7 0) b (bytes_zeros 7)) (omega (arith, length-take 15 h)) (λ e. omega arith))

-- ---- The run

-- The header starts with the magic.
header-magic : (b : Book) → take 8 (file_header b) ≡ magic
unfolding file_header header_for file_header_bytes
header-magic b = refl

module _ (earlier : List ℕ) (b : Book) (cs : List Call) (typed : All Typed cs) (kept : Invariant b) (going : b.finished ≡ false) (n : b.slot_length ≡ length earlier) where
  abbrev d : Book
  d = book_run b cs

  abbrev ws : List Write
  ws = begin_writes ++ book_written b cs

  written : Written d (book_written b cs)
  written = run_written b cs typed kept going

  -- begin's write and the blocks'
  vs : List Write
  vs = begin_writes ++ written.blocks

  wide : file_header_size ≤ length earlier
  wide = omega (arith, kept.wide)

  header-long : length (file_header d) ≡ file_header_size
  header-long = header-length d (run_kept b cs typed kept)

  away : All (Away 0 15 (length earlier)) vs
  unfolding vs
  away =
      let e : d.slot_length ≡ length earlier = (same_run b cs).slot ∙ n in
      All.more {x = write 15 (0 ∷ [])} (record { inside = omega (arith, wide); beside = inr (omega arith) }) (all_each (away_part 0 15 (omega arith) (omega arith)) (rw e at written.away))

  open_writes : d.finished ≡ false → ws ≡ vs
  unfolding vs
  open_writes q = ap (λ (l : List Write). begin_writes ++ l) (written.all ∙ rw (q, append-nil))

  done_writes : d.finished ≡ true → ws ≡ vs ++ header_writes (file_header d)
  unfolding vs
  done_writes q = ap (λ (l : List Write). begin_writes ++ l) (written.all ∙ rw q)

  done_length : d.finished ≡ true → length ws ≡ length vs + 3
  done_length q = ap length (done_writes q) ∙ length-append vs (header_writes (file_header d))

  few : length ws ≤ length vs + 3
  few = by_cases d.finished (λ q. omega (arith, done_length q)) (λ q. omega (arith, ap length (open_writes q)))

  some : 0 < length vs
  unfolding vs
  some = omega arith

  module _ (k : ℕ) (t : List ℕ) (l : CutLeaves earlier ws k t) where
    answer : 0 < k → (d.finished ≡ false) ⊎ (k < length ws) → opens t ≡ refusal_by (take 8 t)
    answer p o =
        let s = (cut_law earlier b cs k t typed kept going n l).loading p o in
        refusal t (omega (arith, s.long, kept.wide)) (omega (arith, s.long, kept.small)) s.zeroed

    unfinished : d.finished ≡ false → take 8 t ≡ take 8 earlier
    unfinished q = alike_take 8 (away_cut refl away (rw (open_writes q) at l)) (omega arith)

    before : k < length vs → take 8 t ≡ take 8 earlier
    before z = by_cases d.finished (λ q. header-ahead (file_header d) header-long earlier vs away (cut_split vs (rw (done_writes q) at l)) z) unfinished

    after : d.finished ≡ true → length vs < k → take 8 t ≡ magic
    after q z = header_taken (file_header d) header-long earlier vs away wide (cut_split vs (rw (done_writes q) at l)) z ∙ header-magic d

    refusal_at : RefusalAt earlier d ws k t
    unfolding same
    refusal_at =
        record {
          answer = answer;
          before = ⊎_elim unfinished (λ z. before (omega (arith, few)));
          after = λ q z. after q (omega (arith, done_length q));
          loading = λ p. ⊎_elim (λ q. answer p (inl q) ∙ ap refusal_by (unfinished q)) (λ z. answer p (inr (omega arith)) ∙ ap refusal_by (before (omega (arith, few))));
          finishing = λ q z u. answer (omega (arith, done_length q, some)) (inr u) ∙ ap refusal_by (after q (omega (arith, done_length q)));
        }

  cut_to : d.finished ≡ true → (eight : List ℕ) → Bytes eight → length eight ≡ 8 → CutTo earlier ws eight
  cut_to q eight y l =
      let e = done_length q in
      let t = torn_to earlier vs eight in
      let c : CutLeaves earlier ws (length vs) t = rw (done_writes q) (torn_cut (file_header d) header-long earlier vs eight y l) in
      let f : take 8 t ≡ eight = torn_starts earlier vs eight l in
      record { taken = length vs; slot = t; under = omega arith; cut = c; starts = f; opening = answer (length vs) t c some (inr (omega arith)) ∙ ap refusal_by f }

  refusals : Refusals earlier d ws
  unfolding vs
  refusals = record { last = λ q. (written.blocks, done_writes q); cut = refusal_at; torn = cut_to }

refusals_as : (earlier : List ℕ) (b : Book) (ws vs : List Write) → vs ≡ ws → Refusals earlier b ws → Refusals earlier b vs
refusals_as earlier b ws vs e r = rw e r

pub which_refusal : WhichRefusal
unfolding WhichRefusal
which_refusal earlier se ch lc m lent sl a cs t =
    let g = begin-accepted (length earlier) ch m lent a in
    refusals_as earlier _ _ _ (writes-is earlier ch m lent g cs t) (refusals earlier (begun (length earlier) ch m) cs t (kept0 earlier ch m lent g cs t) refl refl)
