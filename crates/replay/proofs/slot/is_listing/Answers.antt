use Rattle.key_listing.proofs.LineLaws.{filled-inside, filled_prefix}
use Rattle.replay.proofs.slot.is_listing.Goals as goal

pub slice_bounds-out-end : goal.slice_bounds-out-end
slice_bounds-out-end c = filled-inside c.fill-filled.ensures

pub slice_bounds-strip_prefix-end : goal.slice_bounds-strip_prefix-end
slice_bounds-strip_prefix-end c = filled_prefix c.fill-filled.ensures
