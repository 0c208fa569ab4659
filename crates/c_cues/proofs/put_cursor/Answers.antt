use mathlib.Core.Path.{◌∙◌}
use Rattle.c_cues.proofs.CursorLaws.{due-put, passed_put}
use Rattle.c_cues.proofs.put_cursor.Goals as goal

pub put_u32-requires : goal.put_u32-requires
put_u32-requires c = tt

pub put_u32-requires-else-c : goal.put_u32-requires-else-c
put_u32-requires-else-c c = tt

pub shape_of-cursor-then-c : goal.shape_of-cursor-then-c
shape_of-cursor-then-c c = c.cursor-then-c-1.given ∙ c.cursor-3-1.given
    ∙ c.cursor-2-1.given
    ∙ c.cursor-1.given

pub returns-then-c : goal.returns-then-c
returns-then-c c = due-put _ _ c.put_long.ensures
    c.put_long-2.ensures
    c.put_long-3.ensures c.if-c.true c.put_u32.ensures

pub shape_of-cursor-else-c : goal.shape_of-cursor-else-c
shape_of-cursor-else-c c = c.cursor-else-c-1.given ∙ c.cursor-3-1.given
    ∙ c.cursor-2-1.given
    ∙ c.cursor-1.given

pub returns-else-c : goal.returns-else-c
returns-else-c c = passed_put _ _ c.put_long.ensures
    c.put_long-2.ensures
    c.put_long-3.ensures c.if-c.false c.put_u32-else-c.ensures
