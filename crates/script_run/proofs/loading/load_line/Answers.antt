use Rattle.script_run.proofs.LoadLaws.{follows}
use Rattle.script_run.proofs.loading.load_line.Goals as goal

pub returns : goal.returns
returns g c = follows c.args.next c.report_line.result
    c.requires.at_in_bounds.0
    c.requires.at_in_bounds.1
    c.line_at-line.ensures
    c.kind_of-kind.ensures c.make-m.ensures
    c.lent_after.ensures
