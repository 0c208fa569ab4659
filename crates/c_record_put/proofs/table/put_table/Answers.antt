use mathlib.Core.Path.{◌≡◌}
use lib.ListN.{length-take}
use native.Mathlib.Omega.{arith}
use Rattle.c_record_put.proofs.TableLaws.{table-put, table-back}
use Rattle.c_record_put.specs.KeptTable.{table_put}
use borrow.Author.Rules.{rules}
use Rattle.c_record_put.proofs.table.put_table.Goals as goal

pub returns : goal.returns
returns c =
    let t = c.args.table.now in
    let put : c.put_cues.new.buf ≡ table_put c.args.kept.now t.cues t.count = search (table-put, rules) in
    record {
      kept_after = put;
      n_after = rw put (table-back c.args.kept.now t.cues t.count (omega (arith, length-take t.count t.cues)) c.requires.0 c.requires.1 c.put_cues.ensures.1);
    }
