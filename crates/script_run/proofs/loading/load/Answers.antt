use mathlib.Core.Path.{refl}
use Rattle.script_run.proofs.BeginLaws.{too_long, too_little, enough}
use Rattle.script_run.proofs.loading.load.Goals as goal

pub returns-then-s-gt-SCRIPT_LIMIT : goal.returns-then-s-gt-SCRIPT_LIMIT
returns-then-s-gt-SCRIPT_LIMIT g c = let all = too_long _ _ _ c.if-s-gt-SCRIPT_LIMIT.true refl in
    record {
      value = all.0;
      logged_after = all.1;
    }

pub returns-then-logged-lt-LOG_SIZE : goal.returns-then-logged-lt-LOG_SIZE
returns-then-logged-lt-LOG_SIZE g c = let all = too_little _ _ _ c.if-s-gt-SCRIPT_LIMIT.false c.if-logged-lt-LOG_SIZE.true refl in
    record {
      value = all.0;
      logged_after = all.1;
    }

pub returns : goal.returns
returns g c = let all = enough _ _ _ c.if-s-gt-SCRIPT_LIMIT.false c.if-logged-lt-LOG_SIZE.false (c.load_script.ensures.value, c.load_script.ensures.logged_after) in
    record {
      value = all.0;
      logged_after = all.1;
    }
