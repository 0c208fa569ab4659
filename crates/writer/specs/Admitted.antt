-- What the premises of the theorems admit: calls whose arguments stand at both ends of their types, and cuts that leave any bytes. A stronger premise, or a
-- narrower rule, would not.
use Rattle.std.specs.Prelude.{ℕ, ◌<◌, ◌≡◌, true, false, List, [], ◌∷◌, length, get_or, replicate, ℤ, pos, negsuc}
use Rattle.layout.specs.Lists.{All, put}
use Rattle.writer.specs.WritesAndCuttingRule.{Write, write, CutLeaves}
use Rattle.writer.specs.Loading.{Push, cue, push, finish, no_block}
use Rattle.writer.specs.Typed.{Typed}
use Rattle.writer.specs.declared.CueKind.TheVariants.{Range}
use Rattle.writer.specs.declared.Cue.{Cue}
use Rattle.writer.specs.declared.ChannelBlock.{ChannelBlock}

-- ---- Calls

-- Any bytes, as many as a slice can have.
pub record AnyBytes (bs : List ℕ) : Type 0 where
  pub each : (i : ℕ) → i < length bs → get_or bs i 0 < 256
  pub long : length bs < 9223372036854775808

-- The largest i16, and the least.
abbrev pub ends : List ℤ
ends = pos 32767 ∷ replicate 15 (negsuc 32767)

-- Every field at its type's largest value; signed ones at the least too.
abbrev pub largest : ChannelBlock
largest =
    record { rate = 4294967295; length = 18446744073709551615; coefficients = ends; gain = 65535; context = record { predictor_and_scale = 65535; last = negsuc 32767; oldest = pos 32767 } }

-- A cue at the largest values.
abbrev pub largest_cue : Cue
largest_cue = record { start = 18446744073709551615; kind = Range 18446744073709551615; name = 4294967295 }

-- A push at the largest values, with this data.
abbrev pub largest_push : (left right : List ℕ) → Push
largest_push l r =
    record { channels = 18446744073709551615; left = record { block = largest; bytes = l }; right = record { block = largest; bytes = r }; last = true }

-- A cue at the least values.
abbrev pub least_cue : Cue
least_cue = record { start = 0; kind = Range 0; name = 0 }

-- A push at the least values.
abbrev pub least_push : Push
least_push = record { channels = 0; left = record { block = no_block; bytes = [] }; right = record { block = no_block; bytes = [] }; last = false }

-- Calls at the largest values are typed, with any bytes as data and as lent buffer.
unfoldable pub TypedAtTheMost : Type 0
TypedAtTheMost =
    (left right lent : List ℕ) → AnyBytes left → AnyBytes right → AnyBytes lent → All Typed (cue largest_cue ∷ push (largest_push left right) lent ∷ finish lent ∷ [])

-- So are calls at the least values, with no bytes.
unfoldable pub TypedAtTheLeast : Type 0
TypedAtTheLeast = All Typed (cue least_cue ∷ push least_push [] ∷ finish [] ∷ [])

-- ---- Cuts

-- A slot of four bytes.
abbrev pub four_bytes : List ℕ
four_bytes = 10 ∷ 20 ∷ 30 ∷ 40 ∷ []

-- A write of one byte and one of three.
abbrev pub two_writes : List Write
two_writes = write 0 (1 ∷ []) ∷ write 1 (2 ∷ 3 ∷ 4 ∷ []) ∷ []

-- What a cut can leave of them.
pub record CutsOfTwo : Type 0 where
  -- "a write of one byte leaves the old or the new byte and has taken if it left the new one"
  pub old : CutLeaves four_bytes two_writes 0 four_bytes
  pub new : CutLeaves four_bytes two_writes 1 (1 ∷ 20 ∷ 30 ∷ 40 ∷ [])
  -- "the one under way has left any values in its own range": neither the old nor the new ones
  pub torn : CutLeaves four_bytes two_writes 1 (1 ∷ 0 ∷ 255 ∷ 99 ∷ [])
  -- "or the end after the last"
  pub whole : CutLeaves four_bytes two_writes 2 (1 ∷ 2 ∷ 3 ∷ 4 ∷ [])

-- Whatever the slot and the write under way, of other than one byte: any bytes in its range are what some cut leaves.
unfoldable pub AnyTear : Type 0
AnyTear =
    (s : List ℕ) (w : Write) (ws : List Write) (g : List ℕ) → ((i : ℕ) → i < length g → get_or g i 0 < 256) → length g ≡ length w.bytes → (length g ≡ 1 → ⊥)
    → CutLeaves s (w ∷ ws) 0 (put s w.offset g)
