-- One ADPCM sample of a half byte (document 02, Card 1), in whole numbers: "Sums are whole numbers that never overflow".
use Rattle.std.specs.Prelude.{ℕ, ◌%◌, ◌^◌, ltb, ℤ, pos, ◌+ℤ◌, ◌-ℤ◌, ◌*ℤ◌}
use Rattle.layout.specs.Choice.{pick}
use Rattle.whole_numbers.specs.Whole.{floor_div, clamped}

-- A half byte as a signed number: 0 to 7, then -8 to -1.
unfoldable pub signed_half : ℕ → ℤ
signed_half half = pick (ltb half 8) (pos half) (pos half -ℤ pos 16)

-- What the two samples before say of the next: (c0·last + c1·oldest + 1024) / 2048, rounded towards minus infinity
unfoldable pub predicted : (c0 c1 last oldest : ℤ) → ℤ
predicted c0 c1 last oldest = floor_div (c0 *ℤ last +ℤ c1 *ℤ oldest +ℤ pos 1024) 2048

-- By what a half byte is multiplied: 2 to the low half of predictor and scale
unfoldable pub scale : (ps : ℕ) → ℕ
scale ps = 2 ^ (ps % 16)

-- The sample: what is predicted and the half byte times the scale, clamped to 16 bits
unfoldable pub sample : (c0 c1 last oldest : ℤ) (half ps : ℕ) → ℤ
sample c0 c1 last oldest half ps = clamped (predicted c0 c1 last oldest +ℤ signed_half half *ℤ pos (scale ps))
