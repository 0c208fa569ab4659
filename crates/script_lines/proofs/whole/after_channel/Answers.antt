use Rattle.script_lines.proofs.WholeLaws.{no_channel_lem}
use Rattle.script_lines.proofs.whole.after_channel.Goals as goal

pub returns-in-Channel : goal.returns-in-Channel
returns-in-Channel c = rw c.in-Channel.is

pub returns-in_default : goal.returns-in_default
returns-in_default c = no_channel_lem c.args.kind c.args.channels c.in_default.not-Channel
