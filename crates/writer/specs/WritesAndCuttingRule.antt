-- Writes and the cutting rule (document 01).
use Rattle.std.specs.Prelude.{ℕ, suc, ◌+◌, ◌≡◌, List, [], ◌∷◌, ◌++◌, length, take, drop}
use Rattle.layout.specs.Refusals.{block_limit}
use Rattle.layout.specs.Lists.{put}
use Rattle.layout.specs.Types.{Bytes}
use Rattle.writer.specs.declared.Place.{Place}

-- ---- Writes

-- A write that the server carries out: where it goes, and its bytes.
pub record Write : Type 0 where
  pub offset : ℕ
  pub bytes : List ℕ

-- A write of these bytes at this offset.
abbrev pub write : ℕ → List ℕ → Write
write at bs = record { offset = at; bytes = bs }

-- As many writes as a loading hands out: begin's, each block's, finish's three.
abbrev pub most_writes : ℕ
most_writes = 1 + block_limit + 3

-- "it hands out writes (offset, length, bytes in a lent buffer)": offset and length
abbrev pub place_of : Write → Place
place_of w = record { offset = w.offset; length = length w.bytes }

-- "The bytes fill the lent buffer from its start": those of all writes, one after the other
unfoldable pub handed : List Write → List ℕ
handed [] = []
handed (w ∷ ws) = w.bytes ++ handed ws

-- "a write's bytes are those that its call handed out": the writes, from their places and the lent buffer
unfoldable pub writes_in : List Place → (lent : List ℕ) → List Write
writes_in [] buf = []
writes_in (p ∷ ps) buf = write p.offset (take p.length buf) ∷ writes_in ps (drop p.length buf)

-- ---- The cutting rule

-- The slot once a write has taken: "All other bytes are unchanged."
abbrev pub carried : List ℕ → Write → List ℕ
carried s w = put s w.offset w.bytes

-- `CutLeaves s ws n t`: the server carries the writes ws out on the slot s, "in order"; the power fails; n of them have taken, and the slot is t.
-- "A cut point is any write of the list .. or the end after the last"; "writes before the cut point have taken, later ones haven't, and the one under
-- way has left any values in its own range; a write of one byte leaves the old or the new byte and has taken if it left the new one".
pub data CutLeaves : (s : List ℕ) (ws : List Write) (n : ℕ) (t : List ℕ) → Type 0 where
  ended : {s : List ℕ} → CutLeaves s [] 0 s
  torn : {s : List ℕ} {w : Write} {ws : List Write} (g : List ℕ) → Bytes g → length g ≡ length w.bytes → (length g ≡ 1 → ⊥) → CutLeaves s (w ∷ ws) 0 (put s w.offset g)
  old : {s : List ℕ} {w : Write} {ws : List Write} → length w.bytes ≡ 1 → CutLeaves s (w ∷ ws) 0 s
  new : {s : List ℕ} {w : Write} {ws : List Write} → length w.bytes ≡ 1 → CutLeaves s (w ∷ ws) 1 (carried s w)
  took : {s t : List ℕ} {w : Write} {ws : List Write} {n : ℕ} → CutLeaves (carried s w) ws n t → CutLeaves s (w ∷ ws) (suc n) t
