use mathlib.Core.Path.{◌∙◌, sym}
use Rattle.script_lines.proofs.WholeLaws.{line-nothing, line_unsaid, line-channel, line_call}
use Rattle.script_lines.proofs.whole.after_line.Goals as goal

pub returns-in-Nothing : goal.returns-in-Nothing
returns-in-Nothing c = line-nothing _ _ c.kind_of-kind.ensures c.in-Nothing.is

pub returns-then-not-says_all : goal.returns-then-not-says_all
returns-then-not-says_all c = line_unsaid _ _ c.kind_of-kind.ensures c.in_default.not-Nothing (sym c.says_all.ensures ∙ c.if-not-says_all.true)

pub returns-then-channels-gt0 : goal.returns-then-channels-gt0
returns-then-channels-gt0 c = c.after_channel.ensures ∙ line-channel _ _ c.kind_of-kind.ensures c.in_default.not-Nothing
    (sym c.says_all.ensures ∙ c.if-not-says_all.false) c.if-channels-gt0.true

pub returns : goal.returns
returns c = c.after_call.ensures ∙ line_call _ _ c.kind_of-kind.ensures c.in_default.not-Nothing
    (sym c.says_all.ensures ∙ c.if-not-says_all.false) c.if-channels-gt0.false
