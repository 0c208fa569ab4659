use Rattle.script_run.proofs.CallLaws.{data_there, data_many, data_is, sides_made}
use Rattle.script_run.proofs.made.push_sides.Goals as goal

pub slice_bounds-left_data-end : goal.slice_bounds-left_data-end
slice_bounds-left_data-end c =
    data_there _ _ c.requires.left_len_bound.0
    c.data_word.ensures
    c.data_room-left_data.ensures
    c.put_data-n.ensures.out_after c.put_data-n.ensures.value

pub slice_bounds-push_logged-end : goal.slice_bounds-push_logged-end
slice_bounds-push_logged-end c =
    data_many _ _ c.requires.left_len_bound.0
    c.data_word.ensures
    c.data_room-left_data.ensures
    c.put_data-n.ensures.out_after c.put_data-n.ensures.value

pub slice_bounds-right_data-end : goal.slice_bounds-right_data-end
slice_bounds-right_data-end c =
    data_there _ _
    c.requires.left_len_bound.1
    c.data_word-2.ensures c.data_room-right_data.ensures
    c.put_data-m.ensures.out_after c.put_data-m.ensures.value

pub slice_bounds-push_logged-end-2 : goal.slice_bounds-push_logged-end-2
slice_bounds-push_logged-end-2 c =
    data_many _ _
    c.requires.left_len_bound.1
    c.data_word-2.ensures c.data_room-right_data.ensures
    c.put_data-m.ensures.out_after c.put_data-m.ensures.value

pub push_logged-requires : goal.push_logged-requires
push_logged-requires c = c.requires.good

pub returns : goal.returns
returns c =
    sides_made _ _ _ c.push_logged.result _ _ _ c.channel_line.ensures
    c.channel_line-2.ensures
    (data_is _ _ c.requires.left_len_bound.0 c.data_word.ensures c.data_room-left_data.ensures c.put_data-n.ensures.out_after c.put_data-n.ensures.value)
    (data_is _ _ c.requires.left_len_bound.1 c.data_word-2.ensures c.data_room-right_data.ensures c.put_data-m.ensures.out_after
    c.put_data-m.ensures.value) (c.push_logged.ensures.value, (c.push_logged.ensures.logged_after, c.push_logged.ensures.good))
