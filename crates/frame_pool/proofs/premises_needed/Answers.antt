use mathlib.Core.Path.{refl}
use Rattle.frame_pool.specs.FramePool.{take_of, give_of, count_marked, highest_free, has_mark}
use Rattle.frame_pool.specs.FrameLists.{pool_after, give_replies, take_answers, own_calls}
use Rattle.frame_pool.proofs.premises_needed.Goals as goal

pub returns : goal.returns
unfolding pool_after give_replies take_answers own_calls take_of give_of count_marked highest_free has_mark
returns c =
    record {
      seven = record { own = refl; all = refl; last = refl };
      none = refl;
      holds = refl;
      full = refl;
      giving = record { own = refl; all = refl; last = refl };
      accepted = refl;
      refused = refl;
      nothing = refl;
    }
