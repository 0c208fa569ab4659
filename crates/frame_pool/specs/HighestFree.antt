-- "It gets the highest-numbered free frame." (document 02, Card 4), said without looking for it.
use Rattle.std.specs.Prelude.{ℕ, ◌<◌, ◌≡◌, true, false}
use Rattle.frame_pool.specs.FramePool.{is_free, take_of, TakeReply}
use Rattle.frame_pool.specs.declared.DecoderId.{DecoderId}
use Rattle.frame_pool.specs.declared.Pool.{Pool}

-- On every pool: the frame of a take that is served was free, and none with a higher number was.
unfoldable pub HighestFree : Type 0
HighestFree =
    (p : Pool) (who : DecoderId) (f : ℕ) → (take_of p who).reply ≡ TakeReply.Frame f → (is_free p f ≡ true) × ((g : ℕ) → f < g → is_free p g ≡ false)
