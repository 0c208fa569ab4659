-- Calls at both ends of their types, and cuts that leave any bytes.
use Prim.Native.Nat.{ℕ, zero, suc}
use mathlib.Core.Path.{refl}
use mathlib.Core.List.{List, [], ◌∷◌}
use native.Mathlib.Omega.{arith}
use lib.ListN.{replicate}
use lib.IntN.{ℤ, pos, negsuc}
use mir.Syntax.{w16}
use mir.Val.{SFits}
use Rattle.layout.specs.Lists.{All, none, more}
use Rattle.layout.specs.Types.{Bytes, Slice}
use Rattle.writer.specs.WritesAndCuttingRule.{write, ended, torn, old, new, took}
use Rattle.writer.specs.Loading.{cue, push, finish, no_block}
use Rattle.writer.specs.Typed.{TypedCue, TypedBlock, TypedPush}
use Rattle.writer.specs.Admitted.{AnyBytes, largest, largest_cue, largest_push, least_cue, least_push, TypedAtTheMost, TypedAtTheLeast, CutsOfTwo, AnyTear}

slice : {bs : List ℕ} → AnyBytes bs → Slice bs
slice b = record { bytes = b.each; long = b.long }

no_bytes : AnyBytes []
no_bytes = record { each = λ i h. omega arith; long = omega arith }

all_same : (n : ℕ) (z : ℤ) → SFits w16 z → All (SFits w16) (replicate n z)
all_same zero z f = none
all_same (suc n) z f = more f (all_same n z f)

low : SFits w16 (negsuc 32767)
low = record { sfits = omega arith }

high : SFits w16 (pos 32767)
high = record { sfits = omega arith }

nil : SFits w16 (pos 0)
nil = record { sfits = omega arith }

block-most : TypedBlock largest
block-most =
    record {
      rate = omega arith;
      addresses = omega arith;
      coefficients = record { sixteen = refl; each = more high (all_same 15 (negsuc 32767) low) };
      gain = omega arith;
      context = record { scale = omega arith; last = low; oldest = high };
    }

block_least : TypedBlock no_block
block_least =
    record {
      rate = omega arith;
      addresses = omega arith;
      coefficients = record { sixteen = refl; each = all_same 16 (pos 0) nil };
      gain = omega arith;
      context = record { scale = omega arith; last = nil; oldest = nil };
    }

cue-most : TypedCue largest_cue
cue-most = record { start = omega arith; range = omega arith; name = omega arith }

push_most : {l r : List ℕ} → AnyBytes l → AnyBytes r → TypedPush (largest_push l r)
push_most x y =
    record { channels = omega arith; left = record { block = block-most; bytes = slice x }; right = record { block = block-most; bytes = slice y } }

pub typed_most : TypedAtTheMost
unfolding TypedAtTheMost
typed_most l r b x y z = more {x = cue largest_cue} cue-most (more {x = push (largest_push l r) b} (push_most x y, slice z) (more {x = finish b} (slice z) none))

cue_least : TypedCue least_cue
cue_least = record { start = omega arith; range = omega arith; name = omega arith }

push_least : TypedPush least_push
push_least =
    record { channels = omega arith; left = record { block = block_least; bytes = slice no_bytes }; right = record { block = block_least; bytes = slice no_bytes } }

pub typed_least : TypedAtTheLeast
unfolding TypedAtTheLeast
typed_least = more {x = cue least_cue} cue_least (more {x = push least_push []} (push_least, slice no_bytes) (more {x = finish []} (slice no_bytes) none))

torn_bytes : Bytes (0 ∷ 255 ∷ 99 ∷ [])
torn_bytes zero h = omega arith
torn_bytes (suc zero) h = omega arith
torn_bytes (suc (suc zero)) h = omega arith
torn_bytes (suc (suc (suc i))) h = absurd (omega arith)

pub cuts_of_two : CutsOfTwo
cuts_of_two =
    record {
      old = old refl;
      new = new refl;
      torn = took (torn {w = write 1 (2 ∷ 3 ∷ 4 ∷ [])} (0 ∷ 255 ∷ 99 ∷ []) torn_bytes refl (λ e. omega arith));
      whole = took (took ended);
    }

pub any_tear : AnyTear
unfolding AnyTear
any_tear s w ws g b e n = torn {w = w} g b e n
