-- The opening record in lent bytes: the bytes that are put for it, and the record that bytes stand for.
use Rattle.std.specs.Prelude.{ℕ, zero, suc, ◌+◌, ◌-◌, ◌*◌, ◌/◌, ◌%◌, ◌≤◌, ◌≡◌, length, take, replicate, ltb, leb, eqb, Option, Some, None, Result, Ok, Err}
use mathlib.Core.List.{List, [], ◌∷◌, ◌++◌, flat_map}
use Rattle.c_opened.specs.declared.failure.Failure.{Failure}
use Rattle.c_opened.specs.declared.failure.Failure.TheVariants.{NoRecord}
use Rattle.layout.specs.Choice.{pick, ◌and◌}
use Rattle.layout.specs.Puts.{put_at}
use Rattle.layout.specs.Records.{u32_at, be32, on, read_channel, file_header_size}
use Rattle.layout.specs.Refusals.{block_limit}
use Rattle.layout.specs.Types.{Bytes}
use Rattle.reader.specs.OpeningAndReading.{Opened, opening}
use Rattle.reader.specs.declared.HpsReader.{HpsReader}
use Rattle.reader.specs.ReaderAnswers.{no_reader}

-- The bytes of a u64.
unfoldable pub be64 : ℕ → List ℕ
be64 x = be32 (x / 4294967296) ++ be32 (x % 4294967296)

-- A u64 put by its halves, each where it fits.
unfoldable pub put_long : List ℕ → (at x : ℕ) → List ℕ
put_long s at x = put_at (put_at s at (be32 (x / 4294967296))) (at + 4) (be32 (x % 4294967296))

-- Where the blocks' offsets lie: after the file header, the count of blocks and the loop start.
abbrev pub offsets_at : ℕ
offsets_at = file_header_size + 4 + 4

-- The bytes of a record.
abbrev pub opened_size : ℕ
opened_size = offsets_at + 4 * block_limit

-- The number for no loop.
abbrev pub no_loop : ℕ
no_loop = 4294967295

-- The loop start as a u32.
abbrev pub loop_number : Option ℕ → ℕ
loop_number None = no_loop
loop_number (Some i) = i % 4294967296

-- The same, read.
abbrev pub loop_of : ℕ → Option ℕ
loop_of n = pick (eqb n no_loop) None (Some n)

-- The file header, with zeros for a channel that is not in use.
unfoldable pub file_kept : List ℕ → (count : ℕ) → List ℕ
file_kept s count = pick (eqb count 2) (take file_header_size s) (take 72 s ++ replicate 56 0)

-- "block offsets (zeros beyond)": the places of 512 offsets.
unfoldable pub offsets_kept : (blocks : ℕ) (offsets : List ℕ) → List ℕ
offsets_kept n os = flat_map be32 (take n os) ++ replicate (4 * (block_limit - n)) 0

-- The record of a slot that was opened, by its parts: file header, count of blocks, loop start, the blocks' offsets.
unfoldable pub opened_parts : List ℕ → (count blocks : ℕ) → Option ℕ → (offsets : List ℕ) → List ℕ
opened_parts s count n start os = ((file_kept s count ++ be32 n) ++ be32 (loop_number start)) ++ offsets_kept n os

-- The same of a record.
abbrev pub opened_bytes : List ℕ → HpsReader → List ℕ
opened_bytes s r = opened_parts s r.count r.blocks r.loop_start r.offsets

-- The offsets of n blocks from block i on: those from one block to another as they stand there, zeros elsewhere.
unfoldable pub offsets_in : List ℕ → (from to : ℕ) → (n i : ℕ) → List ℕ
offsets_in kept from to zero i = []
offsets_in kept from to (suc n) i = pick (leb from i and ltb i to) (u32_at kept (offsets_at + 4 * i)) 0 ∷ offsets_in kept from to n (i + 1)

-- The lesser of two numbers.
abbrev pub lesser : ℕ → ℕ → ℕ
lesser a b = pick (ltb a b) a b

-- The record that bytes stand for, with the offsets of the blocks from one to another; that of no channel where they are too few, or have more than
-- 2 channels, more than 512 blocks or an unknown format.
unfoldable pub part_in : List ℕ → (from to : ℕ) → HpsReader
part_in kept from to =
    pick (ltb (length kept) opened_size) no_reader
    (pick (ltb 2 (u32_at kept 12)) no_reader
    (pick (ltb block_limit (u32_at kept file_header_size)) no_reader
    (on (read_channel kept 16) (λ n. no_reader) (λ l.
    on (read_channel kept 72) (λ n. no_reader) (λ r.
    record {
      rate = u32_at kept 8;
      count = u32_at kept 12;
      channels = l ∷ r ∷ [];
      blocks = u32_at kept file_header_size;
      offsets = offsets_in kept from (lesser to (u32_at kept file_header_size)) block_limit 0;
      loop_start = loop_of (u32_at kept 132);
    })))))

-- The same where the bytes hold a record, which is one of a channel or two.
abbrev pub where_opened : HpsReader → Result HpsReader Failure
where_opened r = pick (eqb r.count 0) (Err NoRecord) (Ok r)

-- The whole record that bytes stand for.
abbrev pub reader_in : List ℕ → HpsReader
reader_in kept = part_in kept 0 block_limit

-- What is kept of an opening is its record: for a slot of bytes that opens, and bytes with room, those that are put stand for the opening's record.
abbrev pub ReadBack : Type 0
ReadBack = (s kept : List ℕ) (r : HpsReader) → Bytes s → opening s ≡ Opened.opened r → opened_size ≤ length kept → reader_in (put_at kept 0 (opened_bytes s r)) ≡ r
