use Rattle.c_opened.proofs.KeptPuts.{opened-put}
use Rattle.c_opened.proofs.put.put_opened.Goals as goal

pub returns : goal.returns
returns c =
    opened-put _ _ _ _ _ _ _ _ _ c.requires.0 c.requires.1.0 c.requires.1.1
    c.put_file.ensures
    c.put_u32.ensures
    c.loop_number.ensures
    c.put_u32-2.ensures
    c.put_offsets.ensures
    c.put_fill.ensures
