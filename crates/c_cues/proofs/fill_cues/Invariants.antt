use Prim.Native.Nat.{◌*◌}
use Rattle.reader.specs.declared.HpsReader.{HpsReader}
use Rattle.reader.specs.CuesReadBack.{cursor}
use Rattle.reader_cues.specs.CueAnswers.{PartsOf}
use Rattle.c_cues.proofs.FillLaws.{Room, Filling}
use Rattle.c_cues.proofs.fill_cues.Given as goal

abbrev pub invariant-loop-cues : goal.invariant-loop-cues
invariant-loop-cues l =
    Room l.initial.out l.out l.cues (16 * l.cues)
    × ((r : HpsReader) → PartsOf r l.offsets l.blocks l.start l.format
    → Filling l.s r (cursor l.initial.block l.initial.place l.initial.base l.initial.due) l.initial.out l.out (cursor l.block l.place l.base l.due) l.cues (16 * l.cues))
