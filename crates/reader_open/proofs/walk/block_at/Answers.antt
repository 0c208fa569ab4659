use mathlib.Core.Path.{sym}
use Rattle.reader_open.proofs.WalkLaws.{none_at}
use Rattle.reader_open.proofs.walk.block_at.Goals as goal

pub returns-then-offset-highest : goal.returns-then-offset-highest
returns-then-offset-highest c = sym (none_at c.args.offset c.args.highest c.args.offsets.now c.requires c.if-offset-highest.true)
