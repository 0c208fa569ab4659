use Rattle.std.proofs.Common.{◌≡◌, ◌≤◌, ◌-◌, length}
use Rattle.reader.specs.OpeningAndReading.{Readable}
use Rattle.decode_print.specs.Hearing.{most_samples, Before}
use Rattle.decode_print.proofs.print_blocks.Given as goal

abbrev pub invariant-loop-n : goal.invariant-loop-n
invariant-loop-n g l =
    (Readable l.r × Before l.s l.r l.channel l.decoder l.length)
    × ((length l.samples ≡ length l.fn.samples) × (length l.fn.samples ≤ most_samples))

abbrev pub decreases-loop-n : goal.decreases-loop-n
decreases-loop-n g l = l.r.blocks - l.decoder.position
