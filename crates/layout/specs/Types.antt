-- What the Rattle types give: the values that slices, arrays and the fields of records can hold.
use Rattle.std.specs.Prelude.{ℕ, ◌<◌, ◌≡◌, List, length, get_or, ℤ}
use Rattle.std.specs.Int.{w16}
use Rattle.std.proofs.Common.{SFits}
use Rattle.layout.specs.Lists.{All}
use Rattle.layout.specs.declared.FrameContext.{FrameContext}

-- Bytes: every element is below 256.
abbrev pub Bytes : List ℕ → Type 0
Bytes bs = (i : ℕ) → i < length bs → get_or bs i 0 < 256

-- &[u8] and &mut [u8]: bytes, fewer than 2^63
pub record Slice (bs : List ℕ) : Type 0 where
  pub bytes : Bytes bs
  pub long : length bs < 9223372036854775808

-- [i16; 16]
pub record Coefficients (zs : List ℤ) : Type 0 where
  pub sixteen : length zs ≡ 16
  pub each : All (SFits w16) zs

-- FrameContext: u16, i16, i16
pub record ContextFits (c : FrameContext) : Type 0 where
  pub scale : c.predictor_and_scale < 65536
  pub last : SFits w16 c.last
  pub oldest : SFits w16 c.oldest
