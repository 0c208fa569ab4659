-- What the loading calls on a record in lent bytes give.
use Rattle.std.specs.Prelude.{ℕ, ◌≡◌, List, length, ltb, eqb, Result, Ok, Err}
use Rattle.layout.specs.Choice.{pick}
use Rattle.layout.specs.Puts.{put_at}
use Rattle.layout.specs.Records.{be32}
use Rattle.writer.specs.Calls.{Outcome}
use Rattle.c_record.specs.Fields.{fields_of}
use Rattle.c_record.specs.KeptWriter.{stream_in}
use Rattle.c_record_put.specs.KeptRecord.{record_bytes, pushed_bytes}
use Rattle.c_record_put.specs.KeptTable.{table_put}
use Rattle.writer.specs.Calls.{Reply}
use Rattle.layout.specs.declared.refusal.Refusal.{Refusal}
use Rattle.writer.specs.declared.Place.{Place}
use Rattle.writer.specs.declared.Writes.{Writes}
use Rattle.c_opened.specs.declared.failure.Failure.{Failure}
use Rattle.c_opened.specs.Failures.{failure_number}
use Rattle.c_record.specs.KeptSides.{loader_size}

-- The number of a call, 0 where it is accepted; the place of the write that it hands out, or what else it gives.
pub record KeptCall : Type 0 where
  pub number : ℕ
  pub offset : ℕ
  pub length : ℕ

-- A call that gives this number and nothing else.
abbrev pub no_call : (number : ℕ) → KeptCall
no_call n = record { number = n; offset = 0; length = 0 }

-- What a reply comes to: the refusal's number, 0 where the call is accepted; the place of its one write, or the finished length.
abbrev pub call_in : Reply → KeptCall
call_in (Reply.Refused n) = no_call n
call_in Reply.NoWrite = no_call 0
call_in (Reply.OneWrite p) = record { number = 0; offset = p.offset; length = p.length }
call_in (Reply.ThreeWrites n p q r) = record { number = 0; offset = 0; length = n }

-- What a call's result says.
abbrev pub kept_says : Result Place Failure → KeptCall
kept_says (Ok p) = record { number = 0; offset = p.offset; length = p.length }
kept_says (Err e) = no_call (failure_number e)

-- A call that gives no place has a number.
abbrev pub numbered : Result Place Failure → Type 0
numbered (Ok p) = Unit {0}
numbered (Err e) = failure_number e ≡ 0 → ⊥

-- The place of an answer's one write, or the finished length.
abbrev pub place_in : Result Writes Refusal → Result Place Failure
place_in (Err r) = Err (Failure.Refused r)
place_in (Ok Writes.None) = Ok (record { offset = 0; length = 0 })
place_in (Ok (Writes.One p)) = Ok p
place_in (Ok (Writes.Three n p q r)) = Ok (record { offset = 0; length = n })

abbrev pub call_of : Outcome → KeptCall
call_of o = call_in o.reply

-- Begin: 252 where the bytes are too few for a record, then 253 where there is no such mode.
abbrev pub where_room : List ℕ → (mode : ℕ) → KeptCall → KeptCall
where_room kept mode q = pick (ltb (length kept) loader_size) (no_call 252) (pick (ltb 2 mode) (no_call 253) q)

-- A call on the record that bytes hold: 254 where they hold none.
abbrev pub on_kept : List ℕ → Outcome → KeptCall
on_kept kept o = pick (eqb (stream_in kept).setup.slot 0) (no_call 254) (call_of o)

-- What is lent after a call with this number, and the record that lent bytes hold: what the call gives where it is accepted, else as it was.
abbrev pub given_after : {A : Type 0} → (number : ℕ) → (before given : A) → A
given_after n before x = pick (eqb n 0) x before

-- ---- The bytes of an accepted call

-- By whether a reply has writes.
abbrev pub where_written : {A : Type 0} → Reply → A → A → A
where_written (Reply.Refused n) x y = y
where_written Reply.NoWrite x y = y
where_written (Reply.OneWrite p) x y = x
where_written (Reply.ThreeWrites n p q r) x y = x

-- Begin puts the record's numbers and sides; its table is empty.
abbrev pub bytes_begun : (kept : List ℕ) → Outcome → List ℕ
bytes_begun kept o = put_at kept 0 (record_bytes (fields_of o.writer))

-- Cue puts the table.
abbrev pub bytes_cued : (kept : List ℕ) → Outcome → List ℕ
bytes_cued kept o = table_put kept o.writer.table.cues o.writer.table.count

-- Push puts the numbers, and the first block's the sides; an empty push, which hands out no write, leaves every byte.
abbrev pub bytes_pushed : (kept : List ℕ) → Outcome → List ℕ
bytes_pushed kept o = where_written o.reply (put_at kept 0 (pushed_bytes (fields_of o.writer))) kept

-- Finish puts the mark of a finished stream.
abbrev pub bytes_finished : (kept : List ℕ) → List ℕ
bytes_finished kept = put_at kept 84 (be32 1)
