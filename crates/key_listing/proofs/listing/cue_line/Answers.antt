use Rattle.std.proofs.Common.{ap, ◌∙◌, Ok, Some}
use Rattle.key_listing.specs.declared.Stage.{Stage}
use Rattle.key_listing.proofs.LineLaws.{line_done, line_or_lem, some, cues_gone, after_refused, after_end, after-loop, after-point}
use Rattle.key_listing.proofs.listing.cue_line.Goals as goal
use Rattle.key_listing.proofs.listing.cue_line.Goals.{in-Loop, in-Point}

pub returns-then-calls-eq0 : goal.returns-then-calls-eq0
returns-then-calls-eq0 c =
    let a = c.args in
    line_done a.s.now a.r (Stage.Cues a.calls a.c) a.out.now a.at
    (cues_gone a.s.now a.r a.calls a.c c.if-calls-eq0.true)

pub returns-in_default : goal.returns-in_default
returns-in_default c =
    let a = c.args in
    line_done a.s.now a.r (Stage.Cues a.calls a.c) a.out.now a.at
    (after_refused a.s.now a.r a.calls a.c (some _ c.if-calls-eq0.false) _ c.next_cue-call.ensures _ c.in_default.is)

pub returns-in_err-cue : goal.returns-in_err-cue
returns-in_err-cue c =
    let a = c.args in
    rw c.from_residual.ensures (line_done a.s.now a.r (Stage.Cues a.calls a.c) a.out.now a.at
    (after_end a.s.now a.r a.calls a.c (some _ c.if-calls-eq0.false) _ c.next_cue-call.ensures (c.in-Ok.is ∙ ap Ok c.in_err-cue.was)))

pub returns : goal.returns
returns c =
    let a = c.args in
    elim c.match-cue.branch [
      | in-Loop w ↦
          line_or_lem a.s.now a.r (Stage.Cues a.calls a.c) a.out.now a.at _ _
          (after-loop a.s.now a.r a.calls a.c (some _ c.if-calls-eq0.false) _ c.next_cue-call.ensures _ (c.in-Ok.is ∙ ap Ok (c.in_ok-cue.was ∙ ap Some w.in-Loop.is)))
          (rw (w.out-is, w.n-is) w.put_loop-n.ensures) _ c.put_or.ensures
      | in-Point w ↦
          line_or_lem a.s.now a.r (Stage.Cues a.calls a.c) a.out.now a.at _ _
          (after-point a.s.now a.r a.calls a.c (some _ c.if-calls-eq0.false) _ c.next_cue-call.ensures _ _ (c.in-Ok.is ∙ ap Ok (c.in_ok-cue.was ∙ ap Some w.in-Point.is)))
          (rw (w.out-is, w.n-is) w.put_cue-n.ensures) _ c.put_or.ensures
    ]
