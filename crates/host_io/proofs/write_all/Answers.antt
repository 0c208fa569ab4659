use Rattle.std.proofs.Common.{◌++◌, take}
use Rattle.std.proofs.KnownBytes.{Appends-trans}
use Rattle.host_io.proofs.Growing.{part_written, rest_after}
use Rattle.host_io.proofs.write_all.Goals as goal

pub loop-rest-preserved : goal.loop-rest-preserved
loop-rest-preserved g c =
    let (done, split, appended) = c.loop-rest.invariant in
    (done ++ take c.in-Ok.n c.loop-rest.rest.now, rest_after _ done _ _ split, Appends-trans _ _ _ _ _ appended c.in-Ok.ensures.bytes)

pub returns-in-Ok-eq0-clause-part : goal.returns-in-Ok-eq0-clause-part
returns-in-Ok-eq0-clause-part g c =
    let (done, split, appended) = c.loop-rest.invariant in
    part_written _ _ _ _ done _ _ split appended c.write.ensures.bound c.write.ensures.bytes

pub returns-in-Ok-eq0-2-clause-part : goal.returns-in-Ok-eq0-2-clause-part
returns-in-Ok-eq0-2-clause-part g c =
    let (done, split, appended) = c.loop-rest.invariant in
    part_written _ _ _ _ done _ _ split appended c.write.ensures.bound c.write.ensures.bytes
