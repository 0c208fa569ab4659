-- Bytes that are put are there.
use Prim.Native.Nat.{ℕ, ◌+◌, ◌≤◌}
use mathlib.Core.Path.{◌∙◌}
use mathlib.Core.List.{List, append_assoc}
use native.Mathlib.Omega.{arith}
use lib.ListN.{length, take, drop}
use lib.Seq.{length-take-le}
use Rattle.layout.specs.Puts.{put_at}
use Rattle.layout.proofs.AtLaws.{At}
use Rattle.layout.proofs.PutLaws.{put_at_in}

-- bytes that fit, where they were put
pub put-there : (l : List ℕ) (at : ℕ) (bs : List ℕ) → at + length bs ≤ length l → At (put_at l at bs) at bs
put-there l at bs h =
    record { before = take at l; rest = drop (at + length bs) l; long = length-take-le at l (omega arith); is = put_at_in l at bs h ∙ append_assoc (take at l) bs (drop (at + length bs) l) }
