use Rattle.std.proofs.Common.{◌≡◌, ◌++◌, take, drop}
use Rattle.pcm_bytes.specs.Pcm.{pcm_samples}
use Rattle.pcm_bytes.proofs.get_pcm.Given as goal

abbrev pub invariant-loop-i : goal.invariant-loop-i
invariant-loop-i l = l.x-items ≡ take l.i (pcm_samples l.bytes) ++ drop l.i l.initial.x-items
