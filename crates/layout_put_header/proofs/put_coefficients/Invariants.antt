use Rattle.layout.specs.Records.{be_z16}
use Rattle.layout.proofs.PutLaws.{PuttingEach}
use Rattle.layout_put_header.proofs.put_coefficients.Given as goal

abbrev pub invariant-loop-i : goal.invariant-loop-i
invariant-loop-i l = PuttingEach be_z16 2 l.initial.buf l.at l.x-items 16 l.buf l.i
