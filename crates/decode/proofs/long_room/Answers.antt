use Prim.Native.Nat.{ℕ, ◌+◌}
use lib.ListN.{length-replicate}
use Rattle.layout.specs.Refusals.{slot_limit}
use Rattle.decode.proofs.long_room.Goals as goal

pub returns : goal.returns
returns c = length-replicate {A = ℕ} (slot_limit + 1) 0
