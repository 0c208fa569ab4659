use mathlib.Core.Path.{sym, ap}
use Rattle.reader.proofs.PartsLaws.{no_channel_lem, past_last}
use Rattle.reader_block.specs.BlockAnswers.{block_answer, block_position}
use Rattle.reader_block.proofs.BlockLaws.{moves_on}
use Rattle.reader_block.proofs.read_block.Goals as goal

pub returns-then-r-channel : goal.returns-then-r-channel
returns-then-r-channel c =
    let e = no_channel_lem c.args.s.now c.args.r c.args.channel c.args.position c.if-r-channel.true in
    record { answer = sym (ap block_answer e); position_after = sym (ap (block_position c.args.position) e) }

pub returns-then-r-position : goal.returns-then-r-position
returns-then-r-position c =
    let e = past_last c.args.s.now c.args.r c.args.channel c.args.position c.if-r-channel.false c.if-r-position.true in
    record { answer = sym (ap block_answer e); position_after = sym (ap (block_position c.args.position) e) }

pub returns-clause-position_after : goal.returns-clause-position_after
returns-clause-position_after c = sym (moves_on c.args.s.now c.args.r c.args.channel c.args.position c.if-r-channel.false c.if-r-position.false)
