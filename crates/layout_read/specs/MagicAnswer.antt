-- What reading the magic answers: it is right, or the refusal's number.
use Rattle.std.specs.Prelude.{List, ℕ, Result, Ok, Err}
use Rattle.layout.specs.Records.{Read, magic}
use Rattle.layout.specs.Answers.{number_of}
use Rattle.layout.specs.declared.refusal.Refusal.{Refusal}

abbrev pub magic_says : {A : Type 0} → Result A Refusal → Read (List ℕ)
magic_says (Ok a) = Read.value magic
magic_says (Err r) = Read.refused (number_of r)
