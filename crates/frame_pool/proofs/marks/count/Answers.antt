use Rattle.std.proofs.Common.{rules, refl, arith, ◌∙◌}
use Rattle.frame_pool.specs.FramePool.{count_marked}
use Rattle.frame_pool.proofs.PoolLaws.{bytes_alike, bytes_apart, count_hit, count_miss}
use Rattle.frame_pool.proofs.marks.count.Goals as goal
use Rattle.frame_pool.proofs.marks.count.Goals.{then-byte_of-byte, else-byte_of-byte}

pub loop-i-init : goal.loop-i-init
unfolding count_marked
loop-i-init c = (refl, omega arith)

pub loop-i-preserved : goal.loop-i-preserved
loop-i-preserved c =
    let s = c.loop-i.invariant.0 in
    elim c.if-byte_of-byte.branch [
      | then-byte_of-byte w ↦ (w.n-is ∙ count_hit _ _ _ c.loop-i.i (bytes_alike _ _ c.byte_of.ensures c.byte_of-byte.ensures (search rules)) s, omega arith)
      | else-byte_of-byte w ↦ (w.n-is ∙ count_miss _ _ _ c.loop-i.i (bytes_apart _ _ c.byte_of.ensures c.byte_of-byte.ensures (search rules)) s, omega arith)
    ]
