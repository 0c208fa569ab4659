-- The two premises of decoders that keep to their share, of one reply and of one pool.
use Prim.Native.Nat.{◌≤◌}
use mathlib.Core.Path.{◌≡◌}
use Rattle.frame_pool.specs.FramePool.{share, other_decoder, held_by, GiveReply}
use Rattle.frame_pool.specs.declared.DecoderId.{DecoderId}
use Rattle.frame_pool.specs.declared.Pool.{Pool}

abbrev pub Given : GiveReply → Type 0
Given r = r ≡ GiveReply.Given

abbrev pub Few : DecoderId → Pool → Type 0
Few who p = held_by (other_decoder who) p ≤ share
