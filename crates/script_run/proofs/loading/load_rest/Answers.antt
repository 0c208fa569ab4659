use Rattle.script_run.proofs.LoadLaws.{rest-is}
use Rattle.script_run.proofs.loading.load_rest.Goals as goal

pub returns : goal.returns
returns g c = let all = rest-is c.args.m _ _ _ _ c.load_lines.ensures in
    record {
      value = all.0;
      logged_after = all.1;
    }
