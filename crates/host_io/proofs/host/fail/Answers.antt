use Rattle.host_io.proofs.Growing.{grows_more, grows_by_part}
use Rattle.host_io.proofs.host.fail.Goals as goal

pub returns : goal.returns
returns g c =
    let first = grows_by_part _ _ _ c.write_all.ensures.part in
    let second = grows_more _ _ _ _ first c.write_all-2.ensures.part in
    let third = grows_more _ _ _ _ second c.write_all-3.ensures.part in
    grows_more _ _ _ _ third c.write_all-4.ensures.part
