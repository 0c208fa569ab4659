-- What a writer has taken of bytes where it may not have taken all; what is known of arguments and names.
use Rattle.std.specs.Prelude.{ℕ, ◌≤◌, ◌≡◌, List, length, take, IsErrAnd}
use Rattle.std.specs.declared.option.Option.{Option}
use Rattle.std.specs.declared.result.Result.{Result}
use Rattle.std.specs.declared.io.Error.{Error}
use Rattle.std.specs.declared.io.ErrorKind.{ErrorKind}
use Rattle.std.specs.IoError.{error_kind}
use Rattle.std.specs.Str.{IsUtf8}
use Rattle.std.specs.Io.KnownBytes.{Appends}

-- known bytes grow by the first of these
abbrev pub AppendsPart : Option (List ℕ) → Option (List ℕ) → List ℕ → Type 0
AppendsPart old new bytes = (n : ℕ) × (n ≤ length bytes) × Appends old new (take n bytes)

-- known bytes stay, and grow by some
abbrev pub Grows : Option (List ℕ) → Option (List ℕ) → Type 0
Grows old new = (bytes : List ℕ) × Appends old new bytes

-- a count that stops at `most`
abbrev pub CountedTo : ℕ → ℕ → Type 0
CountedTo most n = n ≤ most

-- a name that is not UTF-8 is refused
abbrev pub RefusesOther : {F : Type 0} → List ℕ → Result F Error → Type 0
RefusesOther path r = (IsUtf8 path → ⊥) → IsErrAnd r (λ e. error_kind e ≡ ErrorKind.InvalidInput)
