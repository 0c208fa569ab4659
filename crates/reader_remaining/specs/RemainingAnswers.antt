-- What addresses remaining returns.
use Rattle.std.specs.Prelude.{ℕ, Result, Ok, Err}
use Rattle.layout.specs.Answers.{number_of}
use Rattle.layout.specs.declared.refusal.Refusal.{Refusal}
use Rattle.reader.specs.OpeningAndReading.{Remaining}

-- What the call's result says: the sum, or the refusal's number.
abbrev pub remaining_says : Result ℕ Refusal → Remaining
remaining_says (Ok n) = Remaining.addresses n
remaining_says (Err e) = Remaining.refused (number_of e)
