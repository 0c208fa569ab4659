use Rattle.c_record_put.proofs.TableLaws.{entry_put}
use borrow.Author.Rules.{rules}
use Rattle.c_record_put.proofs.table.put_cue.Goals as goal

pub returns-clause-buf_after : goal.returns-clause-buf_after
returns-clause-buf_after c = search (entry_put, rules)
