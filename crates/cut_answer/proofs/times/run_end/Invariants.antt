use lib.ListN.{take}
use Rattle.writer.specs.WritesAndCuttingRule.{writes_in}
use Rattle.cut_answer.proofs.RunLaws.{Going}
use Rattle.cut_answer.proofs.times.run_end.Given as goal

abbrev pub invariant-loop-m : goal.invariant-loop-m
invariant-loop-m l =
    Going l.initial.slot l.first (writes_in (take l.count l.places) l.logged) l.from l.total l.slot l.m
