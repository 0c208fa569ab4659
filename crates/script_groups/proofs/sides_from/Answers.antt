use Rattle.script_groups.proofs.OrderLaws.{sides_none, left-side, no_right, right_side_lem}
use Rattle.script_groups.proofs.sides_from.Goals as goal

pub returns-then-channels-eq0 : goal.returns-then-channels-eq0
returns-then-channels-eq0 c = record {
  s_value = sides_none c.args.s.now c.args.from 0 c.if-channels-eq0.true;
  s_value_2 = sides_none c.args.s.now c.args.from 1 c.if-channels-eq0.true;
}

pub returns-then-channels-eq1 : goal.returns-then-channels-eq1
returns-then-channels-eq1 c = record {
  s_value = left-side c.args.s.now c.args.from c.if-channels-eq0.false c.said_from-left.ensures;
  s_value_2 = no_right c.args.s.now c.args.from c.if-channels-eq1.true;
}

pub returns : goal.returns
returns c = record {
  s_value = left-side c.args.s.now c.args.from c.if-channels-eq0.false
      c.said_from-left.ensures;
  s_value_2 = right_side_lem c.args.s.now c.args.from c.if-channels-eq0.false
      c.if-channels-eq1.false c.said_from-left.ensures c.next_line.ensures.s_value c.said_from-right.ensures;
}
