use Rattle.layout.proofs.Cases.{both}
use Rattle.script_lines.specs.Lines.{says_channel}
use Rattle.script_lines.proofs.ChannelLaws.{and_assoc}
use Rattle.script_lines.proofs.channels.says_channel.Goals as goal

pub returns : goal.returns
unfolding says_channel
returns c = rw (
  c.says_number.ensures,
  c.says_number-2.ensures,
  c.says_number-3.ensures,
  c.says_context.ensures,
  c.says_coefficients.ensures,
  c.is_data.ensures,
  c.data_word.ensures,
) (simp (both, and_assoc))
