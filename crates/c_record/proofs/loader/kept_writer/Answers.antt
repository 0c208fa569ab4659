use Rattle.c_record.specs.KeptWriter.{stream_in}
use Rattle.c_record.proofs.KeptLaws.{stream_few, held_gives}
use Rattle.c_record.proofs.loader.kept_writer.Goals as goal

pub with_table-requires : goal.with_table-requires
with_table-requires c = let h = held_gives (stream_in c.args.kept.now) _ _ c.in_ok-f.ensures in rw h.0 (stream_few _)
