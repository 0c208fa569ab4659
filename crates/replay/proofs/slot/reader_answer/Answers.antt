use Rattle.std.proofs.Common.{◌≡◌, ◌+◌, ◌-◌, arith, ◌∙◌}
use Rattle.reader_block.proofs.BlockLaws.{moves_on}
use Rattle.reader_channel.specs.ChannelReading.{position_after}
use Rattle.replay.proofs.slot.reader_answer.Goals as goal

-- a reader that has moved on from the block before stands at this one
pub returns : goal.returns
returns c =
    let a = c.args in
    let n : a.position - 1 + 1 ≡ a.position = omega (arith, c.if-position-eq0.false) in
    let m : position_after a.s.now a.r a.channel (a.position - 1) ≡ a.position =
    moves_on a.s.now a.r a.channel (a.position - 1) c.if-r-channel.false (omega (arith, c.if-r-position.false, c.if-position-eq0.false)) ∙ n in
    record { answer = rw m at c.read_next.ensures.answer; position_after = rw m at c.read_next.ensures.position_after }
