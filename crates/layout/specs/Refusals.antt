-- Refused because of the input, refused because of the state (document 01): the first number due in an order, and the limits by name.
use Rattle.std.specs.Prelude.{ℕ, ◌*◌, Bool, not, List, [], ◌∷◌, ltb, eqb}
use Rattle.layout.specs.Choice.{pick, ◌or◌}
use Rattle.layout.specs.Records.{adpcm_bytes}

-- A refusal: whether it is due, and its number.
pub record Due : Type 0 where
  pub holds : Bool
  pub number : ℕ

-- A refusal with its number and its test, as an order lists it.
abbrev pub due : ℕ → Bool → Due
due n b = record { holds = b; number = n }

-- "A call gets the first number due in its order": of an order of refusals, 0 where none is
unfoldable pub first_due : List Due → ℕ
first_due [] = 0
first_due (d ∷ ds) = pick d.holds d.number (first_due ds)

-- ---- Refused because of the input

-- "3 channel count not 1 or 2"
abbrev pub wrong_count : (channels : ℕ) → Bool
wrong_count ch = not (eqb ch 1 or eqb ch 2)

-- "5 over 512 blocks"; "25 512 blocks pushed"
abbrev pub block_limit : ℕ
block_limit = 512

-- "7 slot over 16,777,216 bytes"
abbrev pub slot_limit : ℕ
slot_limit = 16777216

-- "or under 192 at begin"
abbrev pub slot_least : ℕ
slot_least = 192

-- "8 start over 2,147,483,647"
abbrev pub start_limit : ℕ
start_limit = 2147483647

-- "10 length 0 or 1"
abbrev pub too_short : (data_length : ℕ) → Bool
too_short n = ltb n 2

-- "65,536 bytes (mono)"
abbrev pub mono_limit : ℕ
mono_limit = 65536

-- "or 32,768 per channel (stereo)"
abbrev pub stereo_limit : ℕ
stereo_limit = 32768

-- How many bytes of a channel a block may have.
abbrev pub size_limit : (channels : ℕ) → ℕ
size_limit ch = pick (eqb ch 2) stereo_limit mono_limit

-- The longest block: two addresses for each byte.
abbrev pub length_limit : ℕ
length_limit = 2 * mono_limit

-- "13 over .. bytes": by the length, since 13 comes before 11
abbrev pub too_large : (channels data_length : ℕ) → Bool
too_large ch n = ltb (size_limit ch) (adpcm_bytes n)

-- ---- Refused because of the state

-- "20 table holds 128 cues"
abbrev pub cue_limit : ℕ
cue_limit = 128

-- ---- The marking key

-- "Program `key` reads a slot of at most 65,536 bytes .., else 7."
abbrev pub key_limit : ℕ
key_limit = 65536
