use mathlib.Core.Path.{sym, ◌∙◌}
use native.Mathlib.Omega.{arith}
use Rattle.c_cues.proofs.CallLaws.{left_to_next, first_told, given-told}
use Rattle.c_cues.proofs.end_after.Goals as goal
use Rattle.c_cues.proofs.end_after.Goals.{else-cues-gt0-via-then-cues-gt0+else-not-gives, else-cues-gt0-via-else-cues-gt0}

pub returns-then-not-gives : goal.returns-then-not-gives
returns-then-not-gives c = left_to_next _ _ (λ z. omega (arith, c.if-cues-gt0.true)) (sym c.gives.ensures ∙ c.if-not-gives.true)

pub returns : goal.returns
returns c = elim c.else-cues-gt0.branch [
  | else-cues-gt0-via-then-cues-gt0+else-not-gives w ↦ given-told c.args.cues _ (sym w.gives.ensures ∙ w.if-not-gives.false)
  | else-cues-gt0-via-else-cues-gt0 w ↦ first_told c.args.cues _ (omega (arith, w.if-cues-gt0.false))
]
