use mathlib.Core.Path.{ap}
use native.Mathlib.Omega.{arith}
use Rattle.std.proofs.Common.{Some, ◌+◌, ◌≤◌, ◌<◌, length}
use borrow.Author.Tests.{le-leb, lt-leb}
use Rattle.layout.proofs.FieldLaws.{passed, failed}
use Rattle.layout.proofs.fields.field_at.Goals as goal

pub returns-then-inside : goal.returns-then-inside
returns-then-inside g c =
    let h : c.args.at + g.T.Field.SIZE ≤ length c.args.s.now = omega (arith, passed c.inside.ensures c.if-inside.true, c.SIZE.ensures) in
    rw (le-leb (c.args.at + g.T.Field.SIZE) (length c.args.s.now) h) (ap Some c.value_at.ensures)

pub returns-else-inside : goal.returns-else-inside
returns-else-inside g c =
    let h : length c.args.s.now < c.args.at + g.T.Field.SIZE = omega (arith, failed c.inside.ensures c.if-inside.false, c.SIZE.ensures) in
    rw (lt-leb (c.args.at + g.T.Field.SIZE) (length c.args.s.now) h)
