use mathlib.Core.Path.{◌∙◌}
use Rattle.c_cues.proofs.CueBytesLaws.{three-put}
use Rattle.c_cues.proofs.bytes.put_cue.Goals as goal

pub put_u32-requires : goal.put_u32-requires
put_u32-requires c = tt

pub put_u32-requires-2 : goal.put_u32-requires-2
put_u32-requires-2 c = tt

pub shape_of-out : goal.shape_of-out
shape_of-out c = c.out-3-1.given ∙ c.out-2-1.given ∙ c.out-1.given

pub returns : goal.returns
returns c = three-put _ _ _ _ _ c.put_long.ensures
    c.put_u32.ensures c.put_u32-2.ensures
