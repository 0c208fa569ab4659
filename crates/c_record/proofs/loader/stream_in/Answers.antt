use Rattle.c_record.proofs.KeptLaws.{too_short_lem, holds_record, holds-none}
use borrow.Author.Rules.{rules}
use Rattle.c_record.proofs.loader.stream_in.Goals as goal

pub returns-then-kept-lt-LOADER_SIZE : goal.returns-then-kept-lt-LOADER_SIZE
returns-then-kept-lt-LOADER_SIZE c = search (too_short_lem, rules)

pub returns-then-is_sensible : goal.returns-then-is_sensible
returns-then-is_sensible c = search (holds_record, rules)

pub returns-else-is_sensible : goal.returns-else-is_sensible
returns-else-is_sensible c = search (holds-none, rules)
