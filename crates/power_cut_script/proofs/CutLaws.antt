-- The power cut at the moments of a script.
use mathlib.Core.Path.{◌≡◌}
use lib.ListN.{length}
use Rattle.writer.specs.Loading.{accepted}
use Rattle.power_cut.specs.PowerCut.{begin}
use Rattle.power_cut_moments.specs.Moments.{PowerCutAtMoments}
use Rattle.power_cut_moments.proofs.EveryLaws.{at_moments}
use Rattle.script_lines.specs.Lines.{begin_line}
use Rattle.cut_logged_calls.specs.LoggedCalls.{lent_of}
use Rattle.script_run.specs.Script.{begin_line_in, begun_length, begins, calls_of, script_writes}
use Rattle.script_run.proofs.BeginLaws.{own_length}
use Rattle.power_cut_script.specs.ScriptCut.{ScriptCut}
use Rattle.power_cut_script.proofs.TypedLaws.{script_typed, channels_typed, zeros_slice}
use Rattle.writer.specs.Calls.{answer_of}

pub cut_script : ScriptCut
unfolding ScriptCut PowerCutAtMoments begins script_writes
cut_script earlier e s t a m =
    let b = begin_line (begin_line_in s).line in
    let lent = lent_of (begin_line_in s).lent in
    let n : begun_length (length earlier) ≡ length earlier = own_length (length earlier) b.channels b lent a in
    let h : answer_of (begin (length earlier) b.channels b.mode lent) ≡ accepted 0 = rw n at a in
    rw n (at_moments earlier e b.channels (channels_typed (begin_line_in s).line) b.mode lent (zeros_slice (begin_line_in s).lent) h (calls_of s) (script_typed s t) m)
