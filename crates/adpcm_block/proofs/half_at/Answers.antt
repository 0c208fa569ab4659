use Rattle.adpcm_block.proofs.HalfLaws.{half_even, half_odd}
use Rattle.adpcm_block.proofs.half_at.Goals as goal

pub returns-then-i-eq0 : goal.returns-then-i-eq0
returns-then-i-eq0 c = half_even _ _ c.if-i-eq0.true

pub returns-else-i-eq0 : goal.returns-else-i-eq0
returns-else-i-eq0 c = half_odd _ _ c.if-i-eq0.false
