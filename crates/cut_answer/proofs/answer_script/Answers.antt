use Prim.Native.Nat.{◌≤◌}
use lib.ListN.{length}
use Rattle.layout.specs.Refusals.{key_limit}
use Rattle.cut_answer.proofs.RunLaws.{copy_first, copy_length}
use Rattle.cut_answer.proofs.AnswerLaws.{told_refused, all_logged, small, told_shown}
use Rattle.cut_answer.proofs.answer_script.Given.{Over}
use borrow.Author.Rules.{rules}
use Rattle.cut_answer.proofs.answer_script.Goals as goal
use Rattle.cut_answer.proofs.answer_script.Goals.{In-Some}

pub returns-in_default-load : goal.returns-in_default-load
returns-in_default-load g c = told_refused _ _ c.log_room-logged.ensures c.requires _ c.in_default-load.ensures.value

-- An accepted begin's slot is short enough for the buffer.
short : (g : Over) (c : In-Some g) → length c.args.earlier.now ≤ key_limit
short g c =
    small _ _ c.log_room-logged.ensures c.requires c.in-Some.ensures.value c.in-Some.ensures.logged_after

pub slice_bounds-slot-end : goal.slice_bounds-slot-end
slice_bounds-slot-end g c = let h = short g (goal.at.slice_bounds-slot-end g c).In-Some in search rules

pub slice_bounds-show-end : goal.slice_bounds-show-end
slice_bounds-show-end g c =
    let h = short g (goal.at.slice_bounds-show-end g c).In-Some in
    copy_length _ _ (search rules) c.put_bytes.ensures

pub show-requires : goal.show-requires
show-requires g c =
    let h = short g (goal.at.show-requires g c).In-Some in
    let logged = all_logged _ _ c.log_room-logged.ensures c.requires c.in-Some.ensures.value c.in-Some.ensures.logged_after in
    record {
      listed = logged;
      slot_value = (copy_first _ _ (search rules) c.put_bytes.ensures, h);
    }

pub returns : goal.returns
returns g c =
    told_shown _ _ c.log_room-logged.ensures c.requires c.in-Some.ensures.value c.in-Some.ensures.logged_after _ c.show.ensures
