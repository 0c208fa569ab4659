use mathlib.Core.Path.{refl}
use Rattle.script_run.proofs.BeginLaws.{loads_nothing, loads_all}
use Rattle.script_run.proofs.loading.load_script.Goals as goal

pub returns-then-is_err : goal.returns-then-is_err
returns-then-is_err g c =
    let all = loads_nothing c.args.slot _ c.begin_logged-m.result c.start_of-start.ensures
    c.line_at.ensures
    c.begin_line-line.ensures c.begun_length.ensures (c.begin_logged-m.ensures.value, (c.begin_logged-m.ensures.logged_after, c.begin_logged-m.ensures.good))
    c.if-is_err.ensures.value refl refl in
    record {
      value = all.0;
      logged_after = all.1;
    }

pub load_rest-requires : goal.load_rest-requires
load_rest-requires g c = (c.begin_logged-m.ensures.good, c.requires)

pub returns : goal.returns
returns g c =
    let all = loads_all c.args.slot _ c.begin_logged-m.result c.start_of-start.ensures
    c.line_at.ensures
    c.begin_line-line.ensures c.begun_length.ensures (c.begin_logged-m.ensures.value, (c.begin_logged-m.ensures.logged_after, c.begin_logged-m.ensures.good))
    c.if-is_err.ensures.value c.next_line-next.result refl
    c.next_line-next.ensures.s_value (c.load_rest.ensures.value, c.load_rest.ensures.logged_after) in
    record {
      value = all.0;
      logged_after = all.1;
    }
