use Rattle.std.proofs.Common.{sym}
use Rattle.layout.proofs.FieldLaws.{passed, failed}
use Rattle.power_cut_moments.proofs.MomentLaws.{reached_by, reached_out}
use Rattle.power_cut_moments.proofs.reach.Goals as goal

pub returns-then-inside : goal.returns-then-inside
returns-then-inside c = reached_by _ _ _ _ c.min-m.ensures
    (passed c.inside.ensures c.if-inside.true) c.put_bytes.ensures

pub returns-else-inside : goal.returns-else-inside
returns-else-inside c = sym (reached_out _ _ _ _ (failed c.inside.ensures c.if-inside.false))
