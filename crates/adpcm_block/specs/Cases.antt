-- Small cases, computed from the definitions: those that tell the readings of document 02's Card 1 apart.
use Rattle.std.specs.Prelude.{◌≡◌, List, [], ◌∷◌, ◌++◌, replicate, ℤ, pos, negsuc}
use Rattle.layout.specs.Records.{zero_context}
use Rattle.layout.specs.declared.FrameContext.{FrameContext}
use Rattle.adpcm_block.specs.Block.{Decoded, context_with, block_decoded}

-- Sixteen coefficients of 0 but for the first two.
abbrev pub first_pair : (c0 c1 : ℤ) → List ℤ
first_pair c0 c1 = c0 ∷ c1 ∷ replicate 14 (pos 0)

-- What a case gives.
abbrev pub giving : List ℤ → FrameContext → Decoded
giving xs c = record { samples = xs; context = c }

pub record DecodedCases : Type 0 where
  -- the first frame goes by the block's context, not by data byte 0: length 3, context and coefficients 0, data 01 10
  pub by_context : block_decoded (first_pair (pos 0) (pos 0)) zero_context 3 (1 ∷ 16 ∷ []) ≡ giving (pos 1 ∷ []) (context_with 0 (pos 1) (pos 0))
  -- no sample depends on the block before: two blocks of 16 by coefficients 2048, 0, .., contexts 0, data 00 01 .. 07 and zeros
  pub sounds : block_decoded (first_pair (pos 2048) (pos 0)) zero_context 16 (0 ∷ 1 ∷ 2 ∷ 3 ∷ 4 ∷ 5 ∷ 6 ∷ 7 ∷ [])
      ≡ giving (pos 0 ∷ pos 1 ∷ pos 1 ∷ pos 3 ∷ pos 3 ∷ pos 6 ∷ pos 6 ∷ pos 10 ∷ pos 10 ∷ pos 15 ∷ pos 15 ∷ pos 21 ∷ pos 21 ∷ pos 28 ∷ [])
      (context_with 0 (pos 28) (pos 21))
  pub silent : block_decoded (first_pair (pos 2048) (pos 0)) zero_context 16 (replicate 8 0) ≡ giving (replicate 14 (pos 0)) zero_context
  -- the sum that 32 bits do not hold: both coefficients and both last samples -32,768
  pub beyond : block_decoded (first_pair (negsuc 32767) (negsuc 32767)) (context_with 0 (negsuc 32767) (negsuc 32767)) 3 (0 ∷ 0 ∷ [])
      ≡ giving (pos 32767 ∷ []) (context_with 0 (pos 32767) (negsuc 32767))
  -- a block that ends in a frame's header: 14 samples, and that byte, 99, is in what passes on
  pub header : block_decoded (first_pair (pos 0) (pos 0)) zero_context 17 (0 ∷ 0 ∷ 0 ∷ 0 ∷ 0 ∷ 0 ∷ 0 ∷ 240 ∷ 99 ∷ [])
      ≡ giving (replicate 12 (pos 0) ++ (negsuc 0 ∷ pos 0 ∷ [])) (context_with 99 (pos 0) (negsuc 0))
  -- the second frame by its header byte, 18: predictor 1, scale 4; its half bytes 8 and 15 are -8 and -1
  pub second : block_decoded (pos 0 ∷ pos 0 ∷ pos 4096 ∷ negsuc 2047 ∷ replicate 12 (pos 0)) (context_with 0 (pos 10) (pos 4)) 20 (replicate 8 0 ++ (18 ∷ 143 ∷ []))
      ≡ giving (replicate 14 (pos 0) ++ (negsuc 31 ∷ negsuc 67 ∷ [])) (context_with 18 (negsuc 67) (negsuc 31))
