use Rattle.std.proofs.Common.{◌≡◌, Ok, ap, rules}
use Rattle.writer.specs.declared.Writes.{Writes}
use Rattle.writer.specs.Calls.{places_in, reply_by}
use Rattle.cut_write_log.proofs.WriteLogLaws.{none_logged, one-write, all_logged}
use Rattle.cut_write_log.proofs.log_reply.Goals as goal

pub returns-in-Err : goal.returns-in-Err
returns-in-Err g c =
    record {
      value = λ f. (none_logged _ _ (ap (λ v. places_in (reply_by f v)) c.in-Err.is)).0;
      logged_after = λ f. (none_logged _ _ (ap (λ v. places_in (reply_by f v)) c.in-Err.is)).1;
    }

pub returns-in-Ok-None : goal.returns-in-Ok-None
returns-in-Ok-None g c =
    let e : c.args.answer ≡ Ok Writes.None = search rules in
    record {
      value = λ f. (none_logged _ _ (ap (λ v. places_in (reply_by f v)) e)).0;
      logged_after = λ f. (none_logged _ _ (ap (λ v. places_in (reply_by f v)) e)).1;
    }

pub returns-in-Ok-One : goal.returns-in-Ok-One
returns-in-Ok-One g c =
    let e : c.args.answer ≡ Ok (Writes.One c.in-Ok-One.place) = search rules in
    record {
      value = λ f. (one-write _ _ (ap (λ v. places_in (reply_by f v)) e) c.log_write.ensures).0;
      logged_after = λ f. (one-write _ _ (ap (λ v. places_in (reply_by f v)) e) c.log_write.ensures).1;
    }

pub returns-in-Ok-Three : goal.returns-in-Ok-Three
returns-in-Ok-Three g c =
    let w = c.in-Ok-Three in
    let e : c.args.answer ≡ Ok (Writes.Three w.field-0-0 w.start w.rest w.mark) = search rules in
    record {
      value = λ f. (all_logged _ _ (ap (λ v. places_in (reply_by f v)) e) c.log_three.ensures).0;
      logged_after = λ f. (all_logged _ _ (ap (λ v. places_in (reply_by f v)) e) c.log_three.ensures).1;
    }
