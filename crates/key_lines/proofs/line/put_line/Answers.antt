use Rattle.std.proofs.Common.{rules, ◌≡◌, ◌<◌, length}
use Rattle.layout.proofs.FieldLaws.{passed, failed}
use Rattle.key_lines.proofs.LineLaws.{columns_none, columns_more, columns_all, line_room, line_in_lem, line_out}
use Rattle.key_lines.proofs.line.put_line.Goals as goal

pub returns-then-not-inside : goal.returns-then-not-inside
returns-then-not-inside c = line_out _ _ _ _ (search rules) c.line_length-n.ensures (failed c.inside.ensures c.if-not-inside.true)

pub loop-column-init : goal.loop-column-init
loop-column-init c =
    let a = c.args in
    let four : length a.word.now ≡ 4 = search rules in
    let long : length a.out.now < 9223372036854775808 = search rules in
    let r = line_room a.out.now a.at a.word.now a.columns.now four c.line_length-n.ensures long (passed c.inside.ensures c.if-not-inside.false) in
    columns_none _ _ _ _ four r.0 c.put_bytes.ensures

pub loop-column-preserved : goal.loop-column-preserved
loop-column-preserved c = columns_more c.loop-column.invariant c.loop-column-test.true _ _ _ c.put_field-end.ensures

pub returns : goal.returns
returns c =
    line_in_lem _ _ _ _ (search rules) c.line_length-n.ensures (search rules) (passed c.inside.ensures c.if-not-inside.false)
    (columns_all c.loop-column.invariant c.loop-column-test.false c.put_u8.ensures)
