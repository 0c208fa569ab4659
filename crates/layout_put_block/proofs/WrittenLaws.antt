-- Lengths of the pieces in which a block's header is put.
use Prim.Native.Nat.{◌%◌, ◌<◌}
use mathlib.Core.Path.{◌≡◌}
use mathlib.Core.List.{[], ◌∷◌, ◌++◌}
use native.Mathlib.Omega.{arith}
use lib.ListN.{length, length-append}
use Rattle.layout.specs.Records.{context_bytes, header_bytes}
use Rattle.layout_put_block.specs.HeaderPut.{header_put}
use Rattle.layout.specs.declared.FrameContext.{FrameContext}
use Rattle.layout.specs.declared.BlockHeader.{BlockHeader}
use Rattle.layout.proofs.Lengths.{context-length, header-length}

pub block_context_length : (c : FrameContext) → length (context_bytes c ++ (0 ∷ 0 ∷ [])) ≡ 8
block_context_length c = simp (length-append, context-length)

pub put_length_32 : (h : BlockHeader) → length (header_put h) ≡ 32
unfolding header_put
put_length_32 h = header-length _

-- of a count that is a byte the header is the one that was meant
pub header_put-is : (h : BlockHeader) → h.cues < 256 → header_put h ≡ header_bytes h
unfolding header_put
header_put-is h l =
    let e : h.cues % 256 ≡ h.cues = omega arith in
    rw e
