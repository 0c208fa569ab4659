-- The estimate (document 01, "Marking key and estimate").
use Rattle.std.specs.Prelude.{ℕ, ◌+◌, ◌*◌, List, [], ◌∷◌, length, ltb}
use Rattle.layout.specs.Lists.{sum}
use Rattle.layout.specs.Records.{padded_size, adpcm_bytes, file_header_size, block_header_size, alignment}
use Rattle.layout.specs.Refusals.{Due, due, first_due, wrong_count, block_limit, too_short, too_large}
use Rattle.writer.specs.Loading.{Answer, answer_by}

-- "then per length 10, 13"
unfoldable pub lengths_due : (channels : ℕ) → List ℕ → List Due
lengths_due ch [] = []
lengths_due ch (n ∷ ns) = due 10 (too_short n) ∷ due 13 (too_large ch n) ∷ lengths_due ch ns

-- "Order: 3, 5, then per length 10, 13."
unfoldable pub estimate_refusal : (channels : ℕ) → (lengths : List ℕ) → ℕ
estimate_refusal ch ns = first_due (due 3 (wrong_count ch) ∷ due 5 (ltb block_limit (length ns)) ∷ lengths_due ch ns)

-- "128 + Σ(32 + channels × P(bytes)) + 32p"
unfoldable pub estimated : (channels : ℕ) → (lengths : List ℕ) → (p : ℕ) → ℕ
estimated ch ns p = file_header_size + sum (λ n. block_header_size + ch * padded_size (adpcm_bytes n)) ns + alignment * p

-- "The estimate takes block lengths, channel count and a u32 number p of point and range cues, and gives a u64"
unfoldable pub estimate_of : (channels : ℕ) → (lengths : List ℕ) → (p : ℕ) → Answer
estimate_of ch ns p = answer_by (estimate_refusal ch ns) (estimated ch ns p)
