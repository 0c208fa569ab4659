-- Samples as bytes, faded in place (document 02, Card 3): the fading call on the samples that some bytes hold.
use Rattle.std.specs.Prelude.{ℕ, ◌*◌, ◌%◌, ◌≤◌, ◌≡◌, List, ◌++◌, length, take, drop}
use Rattle.pcm_bytes.specs.Pcm.{pcm_bytes, pcm_samples}
use Rattle.fader.specs.Fader.{FadeAnswer, level_limit, curve_entry, faded_by, fading}

-- What the call answers on the samples of these bytes.
abbrev pub pcm_fading : (level : ℕ) → List ℕ → FadeAnswer
pcm_fading level bytes = fading level (pcm_samples bytes)

-- "before touching any sample": refused, the lent bytes stay; else they are those of the faded samples, and an odd last byte stays
abbrev pub bytes_after : (lent : List ℕ) → FadeAnswer → List ℕ
bytes_after lent (FadeAnswer.refused n) = lent
bytes_after lent (FadeAnswer.gave xs) = pcm_bytes xs ++ drop (2 * length xs) lent

-- Portions of whole samples, faded one after the other, come to the whole.
unfoldable pub PortionsFaded : Type 0
PortionsFaded = (level : ℕ) → level ≤ level_limit → (first rest : List ℕ) → length first % 2 ≡ 0
    → bytes_after (first ++ rest) (pcm_fading level (first ++ rest)) ≡ bytes_after first (pcm_fading level first) ++ bytes_after rest (pcm_fading level rest)

-- On the way: the first n samples are faded, the other bytes as they were.
unfoldable pub first_faded : (level n : ℕ) → List ℕ → List ℕ
first_faded level n bytes = pcm_bytes (faded_by (curve_entry level) (take n (pcm_samples bytes))) ++ drop (2 * n) bytes
