use Rattle.cut_answer.proofs.RunLaws.{copy_first, copy_length}
use borrow.Author.Rules.{rules}
use Rattle.cut_answer.proofs.times.show_times.Goals as goal

pub slice_bounds-show_runs-end : goal.slice_bounds-show_runs-end
slice_bounds-show_runs-end g c = copy_length _ _ (search rules) c.put_bytes.ensures

pub show_runs-requires : goal.show_runs-requires
show_runs-requires g c =
    let p = c.requires in
    record {
      listed = p.listed;
      slot_value = (p.slot_value.0, copy_first _ _ (search rules) c.put_bytes.ensures);
    }
