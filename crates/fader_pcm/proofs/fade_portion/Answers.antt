use Rattle.fader_pcm.proofs.PortionLaws.{got-room, faded-room, portion_put}
use Rattle.fader_pcm.proofs.fade_portion.Goals as goal

pub slice_bounds-fade-end-2 : goal.slice_bounds-fade-end-2
slice_bounds-fade-end-2 c = let g = c.get_pcm-n.ensures in got-room (record { few = g.value; is = g.samples_after })

pub slice_bounds-put_pcm-end-2 : goal.slice_bounds-put_pcm-end-2
slice_bounds-put_pcm-end-2 c =
    let g = c.get_pcm-n.ensures in
    faded-room (record { gets = record { few = g.value; is = g.samples_after }; low = c.requires; is = c.fade.ensures.samples_after })

pub returns : goal.returns
returns c =
    let g = c.get_pcm-n.ensures in
    let put = c.put_pcm.ensures in
    let all = portion_put
    (record { gets = record { few = g.value; is = g.samples_after }; low = c.requires; is = c.fade.ensures.samples_after })
    put.value put.out_after in
    record {
      value = all.0;
      bytes_after = all.1.0;
      samples_len_unchanged = all.1.1;
    }
