-- What holds of every book that calls can lead to.
use Prim.Native.Nat.{ℕ, ◌+◌, ◌<◌, ◌≤◌}
use mathlib.Core.Path.{◌≡◌}
use mathlib.Core.Bool.{true, false}
use mathlib.Core.List.{List, [], ◌∷◌}
use mathlib.Core.Logic.{◌⊎◌}
use lib.ListN.{length, drop}
use Rattle.layout.specs.Lists.{All, sum}
use Rattle.layout.specs.Refusals.{too_large, cue_limit, block_limit, slot_limit, slot_least, length_limit}
use Rattle.layout.specs.Records.{adpcm_bytes, adpcm_samples, first_block_offset}
use Rattle.writer.specs.Loading.{Side, Push, cue_refusal, length_of, points, push_refusal, finish_refusal}
use Rattle.writer.specs.Typed.{TypedBlock}
use Rattle.writer.specs.declared.Cue.{Cue}
use Rattle.power_cut.specs.LoadingBook.{Block, Book, end_of, base_of, end_of_blocks, last_pushed, taken_by, takes, state_of}

-- The number due of each call, by the book.
abbrev pub cue_due : Book → Cue → ℕ
cue_due b c = cue_refusal (length b.blocks) b.cues c

abbrev pub push_due : Book → Push → (lent : ℕ) → ℕ
push_due b p lent = push_refusal (state_of b) (takes b p) p lent

abbrev pub finish_due : Book → (lent : ℕ) → ℕ
finish_due b lent = finish_refusal b.finished (length b.blocks) (last_pushed b.blocks) lent

-- Cues in order of their starts, from a sample on and below 2^31.
pub data Ahead : ℕ → List Cue → Type 0 where
  none : {n : ℕ} → Ahead n []
  more : {n : ℕ} {c : Cue} {cs : List Cue} → n ≤ c.start → c.start < 2147483648 → Ahead c.start cs → Ahead n (c ∷ cs)

pub record CueOk (base : ℕ) (c : Cue) : Type 0 where
  pub from : base ≤ c.start
  pub below : c.start < 2147483648

pub record SideOk (n : ℕ) (s : Side) : Type 0 where
  pub long : length s.bytes ≡ adpcm_bytes n
  pub typed : TypedBlock s.block

pub record BlockOk (channels : ℕ) (k : Block) : Type 0 where
  pub same : k.push.channels ≡ channels
  pub least : 2 ≤ length_of k.push
  pub most : length_of k.push ≤ length_limit
  pub size : too_large channels (length_of k.push) ≡ false
  pub left : SideOk (length_of k.push) k.push.left
  pub right : channels ≡ 2 → SideOk (length_of k.push) k.push.right
  pub cues : All (CueOk k.base) k.cues

-- Blocks one after the other, from an offset and a first sample on.
pub data Chained (channels : ℕ) : (offset base : ℕ) → List Block → Type 0 where
  none : {o a : ℕ} → Chained channels o a []
  more : {o a : ℕ} {k : Block} {ks : List Block} → k.offset ≡ o → k.base ≡ a → BlockOk channels k
      → Chained channels (end_of k) (a + adpcm_samples (length_of k.push)) ks → Chained channels o a (k ∷ ks)

-- Exactly the last has the last mark.
pub data Marked : List Block → Type 0 where
  last : {k : Block} → k.push.last ≡ true → Marked (k ∷ [])
  more : {k l : Block} {ks : List Block} → k.push.last ≡ false → Marked (l ∷ ks) → Marked (k ∷ l ∷ ks)

-- How many cues the blocks have written.
abbrev pub named_by : List Block → ℕ
named_by bs = sum (λ k. points k.cues) bs

pub record Invariant (b : Book) : Type 0 where
  pub wide : slot_least ≤ b.slot_length
  pub small : b.slot_length ≤ slot_limit
  pub channels : (b.channels ≡ 1) ⊎ (b.channels ≡ 2)
  pub few : length b.cues ≤ cue_limit
  pub many : length b.blocks ≤ block_limit
  pub ahead : Ahead (base_of b.blocks) (drop (taken_by b.blocks) b.cues)
  pub taken : taken_by b.blocks ≤ length b.cues
  pub named : named_by b.blocks + points (drop (taken_by b.blocks) b.cues) ≡ points b.cues
  pub chained : Chained b.channels first_block_offset 0 b.blocks
  pub room : end_of_blocks b.blocks ≤ b.slot_length
  pub marks : last_pushed b.blocks ≡ true → Marked b.blocks
  pub done : b.finished ≡ true → last_pushed b.blocks ≡ true

-- What a finished run guarantees: a book that is kept and has its last block.
pub record WellFormed (b : Book) : Type 0 where
  pub kept : Invariant b
  pub marked : Marked b.blocks
