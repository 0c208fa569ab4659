-- A mark in one byte, by which the code counts marks. The card has no sentence for it, and no answer depends on it.
use Rattle.std.specs.Prelude.{ℕ, Some, None}
use Rattle.frame_pool.specs.FramePool.{Mark}
use Rattle.frame_pool.specs.declared.DecoderId.{DecoderId}

-- 0 of a free frame, 1 of A's, 2 of B's: no two marks have the same.
abbrev pub mark_byte : Mark → ℕ
mark_byte None = 0
mark_byte (Some DecoderId.A) = 1
mark_byte (Some DecoderId.B) = 2
