use Rattle.std.proofs.Common.{◌*◌, ◌≡◌, ◌++◌, take, drop}
use Rattle.pcm_bytes.specs.Pcm.{pcm_bytes}
use Rattle.pcm_bytes.proofs.put_pcm.Given as goal

abbrev pub invariant-loop-i : goal.invariant-loop-i
invariant-loop-i l = l.out ≡ pcm_bytes (take l.i l.x-items) ++ drop (2 * l.i) l.initial.out
