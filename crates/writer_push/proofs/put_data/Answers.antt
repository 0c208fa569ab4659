use Prim.Native.Nat.{◌+◌, ◌≤◌}
use native.Mathlib.Omega.{arith}
use lib.ListN.{length}
use Rattle.layout.proofs.FieldLaws.{passed, failed}
use Rattle.writer_push.proofs.DataLaws.{mono-put, first_out, second_out, stereo-put}
use borrow.Author.Rules.{rules}
use Rattle.writer_push.proofs.put_data.Goals as goal
use Rattle.writer_push.proofs.put_data.Goals.{Else-channels-ne2}

pub returns-then-channels-ne2 : goal.returns-then-channels-ne2
returns-then-channels-ne2 c = search (mono-put, rules)

-- the first channel's data has room

first : (c : Else-channels-ne2) → c.args.at + c.align-first.result ≤ length c.args.buf.now
first c = passed c.inside.ensures c.if-inside.true

pub overflow_add-next : goal.overflow_add-next
overflow_add-next c = omega (arith, first c)

pub returns-then-inside-2 : goal.returns-then-inside-2
returns-then-inside-2 c =
    stereo-put c.args.buf.now c.args.left.now c.args.right.now c.args.at c.args.channels (omega arith) _ c.align-first.ensures c.if-channels-ne2.false
    (omega arith) _ c.align-second.ensures
    (passed c.inside-then-inside.ensures c.if-inside-2.true) _ _
    c.put_padded-then-inside-2.ensures c.put_padded-then-inside-2-2.ensures

pub returns-else-inside-2 : goal.returns-else-inside-2
returns-else-inside-2 c =
    second_out c.args.buf.now c.args.left.now c.args.right.now c.args.at c.args.channels (omega arith) _ c.align-first.ensures c.if-channels-ne2.false
    (omega arith) _ c.align-second.ensures
    (failed c.inside-then-inside.ensures c.if-inside-2.false)

pub returns-else-inside : goal.returns-else-inside
returns-else-inside c =
    first_out c.args.buf.now c.args.left.now c.args.right.now c.args.at c.args.channels (omega arith) _ c.align-first.ensures
    (failed c.inside.ensures c.if-inside.false)
