use Rattle.std.proofs.Common.{◌≡◌, ◌++◌, map, take, drop}
use Rattle.fader.specs.Fader.{faded}
use Rattle.fader.proofs.fade_by.Given as goal

abbrev pub invariant-loop-x : goal.invariant-loop-x
invariant-loop-x l =
    l.samples ≡ map (λ x. faded x l.entry) (take l.x-index l.initial.samples) ++ drop l.x-index l.initial.samples
