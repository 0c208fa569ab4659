use mathlib.Core.Path.{ap, ◌∙◌}
use Rattle.script_words.specs.Texts.{uncommented, line_of}
use Rattle.script_words.proofs.text.line_at.Goals as goal

pub returns : goal.returns
unfolding line_of
returns c = c.without_comment.ensures ∙ ap uncommented c.whole_line_at.ensures
