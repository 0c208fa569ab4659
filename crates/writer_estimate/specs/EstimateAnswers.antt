-- What the estimate returns.
use Rattle.std.specs.Prelude.{ℕ, Result, Ok, Err}
use Rattle.layout.specs.Answers.{number_of}
use Rattle.layout.specs.declared.refusal.Refusal.{Refusal}
use Rattle.writer.specs.Loading.{Answer, accepted, refused}

-- The answer that it is: the number of a refusal, or the estimate.
abbrev pub estimate_says : Result ℕ Refusal → Answer
estimate_says (Ok n) = accepted n
estimate_says (Err r) = refused (number_of r)
