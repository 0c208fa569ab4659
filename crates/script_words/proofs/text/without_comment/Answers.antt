use Rattle.script_words.proofs.TextLaws.{comment_at, no_comment}
use Rattle.script_words.proofs.text.without_comment.Goals as goal

pub returns-in-Some : goal.returns-in-Some
returns-in-Some c = comment_at _ c.in-Some.ensures

pub returns-in-None : goal.returns-in-None
returns-in-None c = no_comment _ c.in-None.ensures
