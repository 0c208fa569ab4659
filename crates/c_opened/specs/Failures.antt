-- Why a call on lent bytes gives nothing, and its number in the C library.
use Rattle.std.specs.Prelude.{ℕ, Result, Ok, Err}
use Rattle.layout.specs.Answers.{number_of}
use Rattle.c_opened.specs.declared.failure.Failure.{Failure}
use Rattle.c_opened.specs.declared.failure.Failure.TheVariants.{Refused, End, NoRecord, NoKind, NoRoom, NoSide}

abbrev pub failure_number : Failure → ℕ
failure_number (Refused r) = number_of r
failure_number End = 255
failure_number NoRecord = 254
failure_number NoKind = 253
failure_number NoRoom = 252
failure_number NoSide = 251

-- The number of a call with this result, 0 where it is accepted.
abbrev pub told : {A : Type 0} → Result A Failure → ℕ
told (Ok a) = 0
told (Err e) = failure_number e
