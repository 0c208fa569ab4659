use Rattle.layout.specs.Answers.{number_of}
use Rattle.cut_logged_calls.proofs.TallyLaws.{call_made_by}
use Rattle.cut_logged_calls.proofs.push_with.Goals as goal

pub returns : goal.returns
returns c =
    let k = c.push-call.ensures in
    let l = c.log_reply-log.ensures in
    let all = call_made_by _ _ c.push-call.result (k.value, (k.lent_after, k.good)) (l.value number_of, l.logged_after number_of) in
    record {
      value = all.0;
      logged_after = all.1.0;
      good = all.1.1;
    }
