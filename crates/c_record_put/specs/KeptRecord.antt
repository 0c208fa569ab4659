-- The bytes of the writer's record in lent bytes: the first block's sides, and what is put after begin and after a push.
use Rattle.std.specs.Prelude.{ℕ, ◌%◌, eqb}
use mathlib.Core.List.{List, ◌++◌, flat_map}
use Rattle.layout.specs.Choice.{pick}
use Rattle.layout.specs.Records.{be16, be32, be_z16, context_bytes}
use Rattle.writer.specs.declared.ChannelBlock.{ChannelBlock}
use Rattle.c_record.specs.declared.Fields.{Fields}
use Rattle.c_record_put.specs.KeptNumbers.{number_bytes}

-- ---- A side

-- A side in 48 bytes: rate, length as a u32, 16 coefficients, gain, context.
unfoldable pub side_bytes : ChannelBlock → List ℕ
side_bytes b =
    (((be32 b.rate ++ be32 (b.length % 4294967296)) ++ flat_map be_z16 b.coefficients) ++ be16 b.gain) ++ context_bytes b.context

-- ---- The record

-- The bytes of the record without its table: numbers and sides.
unfoldable pub record_bytes : Fields → List ℕ
record_bytes s = number_bytes s ++ (side_bytes s.stream.left ++ side_bytes s.stream.right)

-- The bytes that are put after a push: the sides after the first block alone.
unfoldable pub pushed_bytes : Fields → List ℕ
pushed_bytes s = pick (eqb s.stream.blocks 1) (record_bytes s) (number_bytes s)
