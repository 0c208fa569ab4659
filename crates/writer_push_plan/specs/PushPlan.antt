-- The plan of a push: what its code works out of numbers alone, before it writes a byte.
use Rattle.std.specs.Prelude.{ℕ, ◌+◌, Bool, eqb, Option, Some, None, Result, Ok, Err}
use Rattle.layout.specs.Answers.{number_of}
use Rattle.layout.specs.declared.refusal.Refusal.{Refusal}
use Rattle.layout.specs.Choice.{pick}
use Rattle.layout.specs.Records.{zero_context, data_after, header_with}
use Rattle.layout.specs.Refusals.{first_due}
use Rattle.layout.specs.declared.BlockHeader.{BlockHeader}
use Rattle.writer.specs.Loading.{data_size, size_with, second_context, no_addresses, push_order}
use Rattle.writer.specs.Calls.{state_with}
use Rattle.writer.specs.Push.{loops_here, loop_from, next_offset, advanced}
use Rattle.writer.specs.declared.ChannelBlock.{ChannelBlock}
use Rattle.writer.specs.declared.Setup.{Setup}
use Rattle.writer.specs.declared.Stream.{Stream}
use Rattle.writer_assign_cues.specs.declared.Taken.{Taken}
use Rattle.writer_push_plan.specs.declared.Plan.{Plan}

-- What a push is to do: the number due, 0 where none is; the block's header, where its data starts, its size, and the stream after it.
pub record Planned : Type 0 where
  pub due : ℕ
  pub header : BlockHeader
  pub start : ℕ
  pub size : ℕ
  pub after : Stream

-- The first number due of a push whose block has so many points and ranges.
unfoldable pub plan_due : Setup → Stream → (points channels : ℕ) (left right : ChannelBlock) (leftBytes rightBytes : ℕ) (last : Bool) (lent : ℕ) → ℕ
plan_due u s k ch l r lb rb last lent = first_due (push_order (state_with u s) k ch l r lb rb last lent)

-- The header of a block of so many points and ranges with this next offset.
unfoldable pub header_in : (points channels : ℕ) (left right : ChannelBlock) (leftBytes rightBytes next : ℕ) → BlockHeader
header_in k ch l r lb rb next = header_with next l.length l.context (second_context ch r) k (data_size ch lb rb)

-- No block to write, of a push refused with this number or of an empty one: the stream stays.
abbrev pub no_plan : ℕ → Stream → Planned
no_plan n s =
    record {
      due = n;
      header = record { size = 0; end_address = 0; next_offset = 0; left = zero_context; right = zero_context; cues = 0 };
      start = 0;
      size = 0;
      after = s;
    }

-- A block that takes these cues.
unfoldable pub made_plan : Setup → Stream → Taken → (held : Bool) (end channels : ℕ) (left right : ChannelBlock) (leftBytes rightBytes : ℕ) (last : Bool) → Planned
made_plan u s t held end ch l r lb rb last =
    let size = size_with t.points ch lb rb in
    let loopat = loop_from s.loopat s.offset (loops_here u.mode held t.asked end last) in
    record {
      due = 0;
      header = header_in t.points ch l r lb rb (next_offset last loopat (s.offset + size));
      start = data_after t.points;
      size = size;
      after = advanced s t.to t.points end size loopat l r last;
    }

-- The plan: refused with the first number due, or made; of an empty push there is none.
unfoldable pub plan_of : Setup → Stream → Taken → (held : Bool) (end channels : ℕ) (left right : ChannelBlock) (leftBytes rightBytes : ℕ) (last : Bool) (lent : ℕ) → Planned
plan_of u s t held end ch l r lb rb last lent =
    let n = plan_due u s t.points ch l r lb rb last lent in
    pick (no_addresses ch l.length r.length lb rb last) (no_plan n s) (pick (eqb n 0) (made_plan u s t held end ch l r lb rb last) (no_plan n s))

-- The answer to a push on this stream, as a plan: refused, an empty push, or a block.
abbrev pub plan_says : Stream → Result (Option Plan) Refusal → Planned
plan_says s (Err r) = no_plan (number_of r) s
plan_says s (Ok None) = no_plan 0 s
plan_says s (Ok (Some p)) = record { due = 0; header = p.header; start = p.start; size = p.size; after = p.after }
