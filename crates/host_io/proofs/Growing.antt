-- What a writer holds grows by what one call wrote and then by what the next did.
use Rattle.std.specs.Prelude.{Option, Result, Ok, Err, IfOk}
use Rattle.std.proofs.Common.{◌≡◌, ℕ, ◌+◌, ◌-◌, ◌≤◌, List, ◌++◌, arith, length, take, drop, ◌∙◌, append_assoc, length-append}
use Rattle.std.proofs.Math.Seq.{take-append_seam, take-append-add}
use Rattle.std.proofs.lemmas.List.{take_rest, take-append-drop}
use Rattle.std.specs.Io.KnownBytes.{Appends, WriteAppends}
use Rattle.std.proofs.KnownBytes.{Appends-trans, Appends-kept}
use Rattle.host_io.specs.Partly.{AppendsPart, Grows}

pub grows_more : (a b c : Option (List ℕ)) (bytes : List ℕ) → Grows a b → AppendsPart b c bytes → Grows a c
grows_more a b c bytes (first, p) (n, within, q) = (first ++ take n bytes, Appends-trans a b c first (take n bytes) p q)

pub grows_by_part : (a b : Option (List ℕ)) (bytes : List ℕ) → AppendsPart a b bytes → Grows a b
grows_by_part a b bytes (n, within, p) = (take n bytes, p)

-- what was appended, and then what one call wrote of the rest
pub part_written : {E : Type 0} (a b c : Option (List ℕ)) (bytes done rest : List ℕ) (r : Result ℕ E) → bytes ≡ done ++ rest → Appends a b done
    → IfOk r (λ n. n ≤ length rest) → WriteAppends b c r rest → AppendsPart a c bytes
part_written a b c bytes done rest (Ok n) e p h q =
    rw e (length done + n, omega (arith, length-append done rest), rw (take-append-add done rest n) (Appends-trans a b c done (take n rest) p q))
part_written a b c bytes done rest (Err x) e p h q =
    rw e (length done, omega (arith, length-append done rest), rw (take-append_seam done rest) (Appends-kept a b c done p q))

-- its first n bytes passed
pub rest_after : (bytes done rest : List ℕ) (n : ℕ) → bytes ≡ done ++ rest → bytes ≡ (done ++ take n rest) ++ take (length rest - n) (drop n rest)
rest_after bytes done rest n e = e ∙ simp (append_assoc, take_rest, take-append-drop)
