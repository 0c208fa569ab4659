-- The table of cues put into lent bytes, and read from them again.
use Prim.Native.Nat.{ℕ, zero, suc, ◌+◌, ◌-◌, ◌*◌, ◌<◌, ◌≤◌}
use mathlib.Core.Path.{◌≡◌, refl, ap, sym, ◌∙◌}
use mathlib.Core.List.{List, [], ◌∷◌, ◌++◌, append_assoc, append-nil, flat_map}
use native.Mathlib.Omega.{arith}
use native.Mathlib.Numerals.{add-one}
use lib.ListN.{length, get_or, take, replicate, length-append}
use lib.Seq.{take-suc, length-take-le}
use Rattle.std.proofs.lemmas.List.{take_all}
use Rattle.layout.specs.Lists.{All}
use Rattle.layout.proofs.ListLaws.{all_snoc}
use Rattle.layout.specs.Puts.{put_at}
use Rattle.layout.specs.Records.{be32}
use Rattle.layout.proofs.Lengths.{be32-length}
use Rattle.layout.proofs.AtLaws.{At, at_left, at_right, at_move}
use Rattle.layout.proofs.PutLaws.{put_at-length, put_at-none, Put, put_then}
use Rattle.writer.specs.Loading.{rank, range_length}
use Rattle.writer.specs.Calls.{no_cue}
use Rattle.writer.specs.declared.Cue.{Cue}
use Rattle.writer.specs.declared.CueKind.{CueKind}
use Rattle.layout_number_or_zero.specs.NumberOrZero.{word_at, long_at}
use Rattle.c_opened.specs.KeptReader.{be64, put_long}
use Rattle.c_opened.proofs.LongLaws.{be64-length, long-put, word_back, long-back}
use Rattle.c_record.specs.KeptSides.{kind_of, cue_in, cues_kept, table_in, cues_at, loader_size}
use Rattle.c_record_put.proofs.ThereLaws.{put-there}
use Rattle.c_record_put.proofs.SameLaws.{Same, same_then, same-before, same_after, long_same}
use Rattle.c_record_put.specs.KeptTable.{entry_bytes, EntryFits, entries_bytes, table_put, first_of}
use Rattle.layout.specs.Refusals.{cue_limit}

-- ---- A cue

pub entry_length : (c : Cue) → length (entry_bytes c) ≡ 24
unfolding entry_bytes be64 be32
entry_length c = refl

pub entry_put : (l : List ℕ) (at : ℕ) (c : Cue) {a b d e : List ℕ} {r k : ℕ} → at + 24 ≤ length l → r ≡ range_length c.kind → k ≡ rank c.kind
    → a ≡ put_long l at c.start → b ≡ put_long a (at + 8) r → d ≡ put_at b (at + 16) (be32 k) → e ≡ put_at d (at + 20) (be32 c.name) → e ≡ put_at l at (entry_bytes c)
unfolding entry_bytes
entry_put l at c {a} {b} {d} {e} {r} {k} h er ek ea eb ed ee =
    let fa : a ≡ put_at l at (be64 c.start) = ea ∙ long-put l at c.start (omega arith) in
    let la : length a ≡ length l = ap length fa ∙ put_at-length l at _ in
    let fb : b ≡ put_at a (at + 8) (be64 (range_length c.kind)) = eb ∙ long-put a (at + 8) r (omega arith) ∙ ap (λ (m : ℕ). put_at a (at + 8) (be64 m)) er in
    let fd : d ≡ put_at b (at + 16) (be32 (rank c.kind)) = ed ∙ ap (λ (m : ℕ). put_at b (at + 16) (be32 m)) ek in
    let p1 : Put l at 8 (be64 c.start) a = record { size = be64-length _; is = fa } in
    let p2 = put_then p1 (be64 (range_length c.kind)) (be64-length _) fb refl (omega arith) in
    let p3 = put_then p2 (be32 (rank c.kind)) (be32-length _) fd (omega arith) (omega arith) in
    (put_then p3 (be32 c.name) (be32-length _) ee (omega arith) (omega arith)).is

-- ---- Cues one after the other

pub flat_map_length : (cs : List Cue) → length (flat_map entry_bytes cs) ≡ 24 * length cs
unfolding flat_map
flat_map_length [] = refl
flat_map_length (c ∷ cs) = length-append (entry_bytes c) (flat_map entry_bytes cs) ∙ omega (arith, entry_length c, flat_map_length cs)

flat_map_snoc : (cs : List Cue) (c : Cue) → flat_map entry_bytes (cs ++ (c ∷ [])) ≡ flat_map entry_bytes cs ++ entry_bytes c
unfolding flat_map
flat_map_snoc [] c = append-nil (entry_bytes c)
flat_map_snoc (d ∷ ds) c = ap (λ (l : List ℕ). entry_bytes d ++ l) (flat_map_snoc ds c) ∙ sym (append_assoc (entry_bytes d) (flat_map entry_bytes ds) (entry_bytes c))

pub entries_length : (t : List Cue) (n : ℕ) → n ≤ length t → length (entries_bytes t n) ≡ 24 * n
unfolding entries_bytes
entries_length t n h = flat_map_length (take n t) ∙ ap (λ (m : ℕ). 24 * m) (length-take-le n t h)

-- the first i cues are put
pub record Entries (l : List ℕ) (at : ℕ) (t : List Cue) (b : List ℕ) (i : ℕ) : Type 0 where
  pub few : i ≤ length t
  pub long : length b ≡ length l
  pub is : b ≡ put_at l at (entries_bytes t i)
  pub fit : All EntryFits (take i t)

module _ (l : List ℕ) (at : ℕ) (t : List Cue) where
  pub entries_none : Entries l at t l 0
  unfolding entries_bytes flat_map
  entries_none = record { few = omega arith; long = refl; is = sym (put_at-none l at); fit = All.none }

  pub entries_more : (b : List ℕ) (i : ℕ) (b' : List ℕ) (z : Cue) → at + 24 * length t ≤ length l
      → Entries l at t b i → i < length t → b' ≡ put_at b (at + 24 * i) (entry_bytes (get_or t i z)) → EntryFits (get_or t i z) → Entries l at t b' (i + 1)
  unfolding entries_bytes
  entries_more b i b' z room inv lt e f =
      let s : length (flat_map entry_bytes (take i t)) ≡ 24 * i = entries_length t i (omega arith) in
      let q : flat_map entry_bytes (take (i + 1) t) ≡ flat_map entry_bytes (take i t) ++ entry_bytes (get_or t i z) =
      ap (λ (m : ℕ). flat_map entry_bytes (take m t)) (add-one i) ∙ ap (flat_map entry_bytes) (take-suc t i z lt) ∙ flat_map_snoc (take i t) (get_or t i z) in
      let u : take i t ++ (get_or t i z ∷ []) ≡ take (i + 1) t = sym (ap (λ (m : ℕ). take m t) (add-one i) ∙ take-suc t i z lt) in
      let p : Put l at (24 * i) (flat_map entry_bytes (take i t)) b = record { size = s; is = inv.is } in
      record {
        few = omega arith;
        long = ap length e ∙ put_at-length b _ _ ∙ inv.long;
        is = (put_then p (entry_bytes (get_or t i z)) (entry_length _) e refl (omega arith)).is ∙ ap (put_at l at) (sym q);
        fit = rw (← u) (all_snoc inv.fit f);
      }

  pub entries_all : (b : List ℕ) (i : ℕ) → Entries l at t b i → length t ≤ i
      → (b ≡ put_at l at (flat_map entry_bytes t)) × All EntryFits t
  unfolding entries_bytes
  entries_all b i inv h =
      let w : take i t ≡ t = take_all i t h in
      (inv.is ∙ ap (λ (m : List Cue). put_at l at (flat_map entry_bytes m)) w, rw w at inv.fit)

-- ---- The table

pub table-put : (kept : List ℕ) (t : List Cue) (n : ℕ) {a b : List ℕ} → loader_size ≤ length kept → a ≡ put_long kept 16 n → b ≡ put_at a cues_at (flat_map entry_bytes (take n t)) → b ≡ table_put kept t n
unfolding table_put entries_bytes
table-put kept t n h e f = f ∙ ap (λ (l : List ℕ). put_at l cues_at (flat_map entry_bytes (take n t))) (e ∙ long-put kept 16 n (omega arith))

-- ---- What is put is read again

kind_back : (k : CueKind) → kind_of (rank k) (range_length k) ≡ k
unfolding kind_of
kind_back CueKind.Point = refl
kind_back CueKind.Loop = refl
kind_back (CueKind.Range n) = refl

rank-small : (k : CueKind) → rank k < 4294967296
rank-small CueKind.Point = omega arith
rank-small CueKind.Loop = omega arith
rank-small (CueKind.Range n) = omega arith

entry_back : {s : List ℕ} (off : ℕ) (c : Cue) → EntryFits c → At s off (entry_bytes c) → cue_in s off ≡ c
unfolding cue_in entry_bytes
entry_back {s} off c f a =
    let x : List ℕ = be64 c.start in
    let y : List ℕ = be64 (range_length c.kind) in
    let k : List ℕ = be32 (rank c.kind) in
    let n : List ℕ = be32 c.name in
    let lx = be64-length c.start in
    let ly = be64-length (range_length c.kind) in
    let lk = be32-length (rank c.kind) in
    let lxy : length (x ++ y) ≡ 16 = length-append x y ∙ omega arith in
    let lxyk : length ((x ++ y) ++ k) ≡ 20 = length-append (x ++ y) k ∙ omega arith in
    let a3 : At s off ((x ++ y) ++ k) = at_left ((x ++ y) ++ k) n a in
    let a2 : At s off (x ++ y) = at_left (x ++ y) k a3 in
    let e1 : long_at s off ≡ c.start = long-back off f.start (at_left x y a2) in
    let e2 : long_at s (off + 8) ≡ range_length c.kind = long-back (off + 8) f.range (at_move (off + 8) (ap (λ (m : ℕ). off + m) lx) (at_right x y a2)) in
    let e3 : word_at s (off + 16) ≡ rank c.kind = word_back (off + 16) (rank-small c.kind) (at_move (off + 16) (ap (λ (m : ℕ). off + m) lxy) (at_right (x ++ y) k a3)) in
    let e4 : word_at s (off + 20) ≡ c.name = word_back (off + 20) f.name (at_move (off + 20) (ap (λ (m : ℕ). off + m) lxyk) (at_right ((x ++ y) ++ k) n a)) in
    rw (e1, e2, e3, e4, kind_back c.kind)

cues-back : {s : List ℕ} (off n : ℕ) (cs : List Cue) → length cs ≡ n → All EntryFits cs → At s off (flat_map entry_bytes cs) → cues_kept s off n ≡ cs
unfolding cues_kept flat_map
cues-back off zero [] l f a = refl
cues-back off (suc n) [] l f a = absurd (omega arith)
cues-back off zero (c ∷ cs) l f a = absurd (omega arith)
cues-back {s} off (suc n) (c ∷ cs) l (All.more g f) a =
    let x = entry_back off c g (at_left (entry_bytes c) (flat_map entry_bytes cs) a) in
    let y = cues-back {s = s} (off + 24) n cs (omega arith) f (at_move (off + 24) (ap (λ (m : ℕ). off + m) (entry_length c)) (at_right (entry_bytes c) (flat_map entry_bytes cs) a)) in
    rw (x, y)

module _ (kept : List ℕ) (t : List Cue) (n : ℕ) (len : n ≤ length t) (few : n ≤ cue_limit) (room : loader_size ≤ length kept) where
  fits_count : 16 + length (be64 n) ≤ length kept
  fits_count = omega (arith, be64-length n)

  fits-table : cues_at + length (entries_bytes t n) ≤ length (put_at kept 16 (be64 n))
  fits-table = omega (arith, entries_length t n (omega arith), put_at-length kept 16 (be64 n))

  -- all but the count and the table is left
  pub front_left : Same (table_put kept t n) kept 0 16
  unfolding table_put
  front_left = same_then (same-before (put_at kept 16 (be64 n)) cues_at (entries_bytes t n) fits-table 0 16 (omega arith)) (same-before kept 16 (be64 n) fits_count 0 16 (omega arith))

  pub rest-left : Same (table_put kept t n) kept 24 cues_at
  unfolding table_put
  rest-left =
      same_then (same-before (put_at kept 16 (be64 n)) cues_at (entries_bytes t n) fits-table 24 cues_at (omega arith))
      (same_after kept 16 (be64 n) fits_count 24 cues_at (omega (arith, be64-length n)))

  pub count-back : long_at (table_put kept t n) 16 ≡ n
  unfolding table_put
  count-back =
      long_same (same-before (put_at kept 16 (be64 n)) cues_at (entries_bytes t n) fits-table 16 24 (omega arith)) 16 (omega arith) (omega arith)
      ∙ long-back 16 (omega arith) (put-there kept 16 (be64 n) fits_count)

  pub table-back : All EntryFits (take n t) → table_in (table_put kept t n) cues_at n ≡ first_of t n
  unfolding table_put table_in first_of entries_bytes
  table-back f =
      let a : List ℕ = put_at kept 16 (be64 n) in
      let la : length a ≡ length kept = put_at-length kept 16 (be64 n) in
      let lb : length (flat_map entry_bytes (take n t)) ≡ 24 * n = entries_length t n (omega arith) in
      let p : At (put_at a cues_at (flat_map entry_bytes (take n t))) cues_at (flat_map entry_bytes (take n t)) = put-there a cues_at (flat_map entry_bytes (take n t)) (omega arith) in
      ap (λ (l : List Cue). l ++ replicate (cue_limit - n) no_cue) (cues-back cues_at n (take n t) (length-take-le n t (omega arith)) f p)
