use mathlib.Core.Path.{◌∙◌}
use Rattle.script_run.proofs.CallLaws.{line-fits, push_made}
use Rattle.script_run.proofs.made.push_call.Goals as goal

pub push_sides-requires : goal.push_sides-requires
push_sides-requires c = record {
  good = c.requires.good;
  left_len_bound = (
    line-fits c.args.s.now c.sides_from-sides.result.left c.line_at.ensures
        c.requires.s_len_bound,
    line-fits c.args.s.now c.sides_from-sides.result.right c.line_at-2.ensures
        c.requires.s_len_bound,
  );
}

pub returns : goal.returns
returns c = push_made _ _ _ c.push_sides.result _ _ c.push_line-p.ensures
    (c.line_at.ensures ∙ c.sides_from-sides.ensures.s_value)
    (c.line_at-2.ensures ∙ c.sides_from-sides.ensures.s_value_2) c.push_sides.ensures
