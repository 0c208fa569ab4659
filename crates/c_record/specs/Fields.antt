-- The writer's record as its bytes hold it: all but the table, which stands after the rest.
use Rattle.std.specs.Prelude.{List}
use Rattle.writer.specs.declared.Cue.{Cue}
use Rattle.writer.specs.declared.Stream.{Stream}
use Rattle.writer.specs.declared.HpsWriter.{HpsWriter}
use Rattle.c_record.specs.declared.Fields.{Fields}

-- The record with this table.
abbrev pub writer_of : List Cue → Fields → HpsWriter
writer_of t s = record { setup = s.setup; table = record { cues = t; count = s.count }; stream = s.stream; finished = s.finished }

-- The record without its table.
abbrev pub fields_of : HpsWriter → Fields
fields_of w = record { setup = w.setup; count = w.table.count; stream = w.stream; finished = w.finished }

-- The same with another stream.
abbrev pub fields_with : Fields → Stream → Fields
fields_with f s = record { setup = f.setup; count = f.count; stream = s; finished = f.finished }
