use Rattle.std.proofs.Common.{rules, ◌∙◌}
use Rattle.pcm_bytes.specs.Pcm.{pcm_bytes}
use Rattle.pcm_bytes.proofs.PcmLaws.{pcm_more}
use Rattle.pcm_bytes.proofs.put_pcm.Goals as goal

pub loop-i-init : goal.loop-i-init
unfolding pcm_bytes
loop-i-init c = search rules

pub loop-i-preserved : goal.loop-i-preserved
loop-i-preserved c =
    pcm_more _ _ _ c.loop-i-test.true (search rules) c.loop-i.invariant (c.copy_from_slice.ensures.after ∙ c.to_le_bytes.ensures)
