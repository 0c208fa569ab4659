use Rattle.c_cues.proofs.CursorLaws.{cursor_read}
use Rattle.c_cues.proofs.cursor_in.Goals as goal

pub first_cursor-first-requires : goal.first_cursor-first-requires
first_cursor-first-requires c = tt

pub word-requires : goal.word-requires
word-requires c = tt

pub returns : goal.returns
returns c = cursor_read _ _ c.first_cursor-first.ensures c.long.ensures c.long-2.ensures
    c.long-3.ensures c.word.ensures
