use Prim.Native.Nat.{◌-◌}
use mathlib.Core.Path.{◌≡◌}
use lib.ListN.{length}
use Rattle.fader_pcm.proofs.PortionLaws.{Faded}
use Rattle.fader_pcm.proofs.fade_within.Given as goal

abbrev pub invariant-loop-samples : goal.invariant-loop-samples
invariant-loop-samples l =
    Faded l.level l.initial.bytes l.bytes l.at × (length l.samples ≡ 4096)

abbrev pub decreases-loop-samples : goal.decreases-loop-samples
decreases-loop-samples l =
    length l.bytes - l.at
