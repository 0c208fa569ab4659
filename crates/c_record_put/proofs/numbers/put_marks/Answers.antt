use mathlib.Core.Path.{◌∙◌}
use Rattle.c_record_put.proofs.NumberLaws.{mode_tag, flag_is, marks_put}
use Rattle.c_record_put.proofs.numbers.put_marks.Goals as goal

pub returns : goal.returns
returns c =
    marks_put _ _ _ _ _ _ _ c.args.f.stream.id _ _ c.args.f.stream.loopat c.args.f.setup.mode c.args.f.stream.last c.args.f.finished c.requires
    c.loop_number.ensures c.put_long.ensures (mode_tag _) c.put_u32.ensures c.put_u32-2.ensures (c.from.ensures ∙ flag_is _) c.put_u32-3.ensures (c.from-2.ensures ∙ flag_is _) c.put_u32-4.ensures
