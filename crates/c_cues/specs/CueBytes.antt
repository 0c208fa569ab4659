-- A cue in bytes, and what a cue call puts there.
use Rattle.std.specs.Prelude.{ℕ, ◌+◌, List, ◌++◌, Option, Some, None, Result, Ok, Err}
use Rattle.layout.specs.Puts.{put_at}
use Rattle.layout.specs.Records.{be32}
use Rattle.layout.specs.declared.refusal.Refusal.{Refusal}
use Rattle.reader.specs.CuesReadBack.{CueAnswer}
use Rattle.reader_cues.specs.declared.ReadCue.{ReadCue}
use Rattle.c_opened.specs.declared.failure.Failure.{Failure}
use Rattle.c_opened.specs.KeptReader.{be64, put_long}

-- A cue in 16 bytes: its start, 0 for a point or 1 for the loop, and its name.
unfoldable pub cue_kept : (start kind name : ℕ) → List ℕ
cue_kept start kind name = be64 start ++ be32 kind ++ be32 name

-- A cue put number by number, each where it fits.
unfoldable pub put_cue : List ℕ → (at start kind name : ℕ) → List ℕ
put_cue out at start kind name = put_at (put_at (put_long out at start) (at + 8) (be32 kind)) (at + 12) (be32 name)

-- Whether a cue call gave a cue, and why it gave none.
abbrev pub answered : Result (Option ReadCue) Refusal → Result (Unit {0}) Failure
answered (Err r) = Err (Failure.Refused r)
answered (Ok None) = Err Failure.End
answered (Ok (Some c)) = Ok tt

-- Bytes after a cue call: with the cue where it gave one.
abbrev pub answer_put : List ℕ → (at : ℕ) → CueAnswer → List ℕ
answer_put out at (CueAnswer.refused n) = out
answer_put out at CueAnswer.ended = out
answer_put out at (CueAnswer.loop start) = put_cue out at start 1 0
answer_put out at (CueAnswer.point start name) = put_cue out at start 0 name
