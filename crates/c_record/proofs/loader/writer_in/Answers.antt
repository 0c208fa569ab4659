use Rattle.c_record.proofs.KeptLaws.{stream_few}
use Rattle.c_record.proofs.loader.writer_in.Goals as goal

pub with_table-requires : goal.with_table-requires
with_table-requires c = rw c.stream_in.ensures (stream_few _)
