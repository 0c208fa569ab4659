use lib.ListN.{length, take}
use Rattle.adpcm_block.specs.Block.{halves, halves_decoded}
use Rattle.adpcm_block.proofs.HalfLaws.{Halving}
use Rattle.adpcm_block.proofs.decode_halves.Given as goal

abbrev pub invariant-loop-i : goal.invariant-loop-i
invariant-loop-i l =
    Halving l.c0 l.c1 (take (length l.initial.samples) (halves l.data)) (halves_decoded l.c0 l.c1 l.initial.context (take (length l.initial.samples) (halves l.data))) l.samples l.i l.context
