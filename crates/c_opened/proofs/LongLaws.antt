-- A u64 put by its halves, and read back.
use Prim.Native.Nat.{ℕ, ◌+◌, ◌/◌, ◌%◌, ◌≤◌, ◌<◌}
use mathlib.Core.Path.{◌≡◌, refl, ap, ◌∙◌}
use mathlib.Core.List.{List}
use native.Mathlib.Omega.{arith}
use lib.ListN.{length}
use Rattle.layout.specs.Puts.{put_at}
use Rattle.layout.specs.Records.{be32}
use Rattle.layout.proofs.AtLaws.{At, at_left, at_right, at_move, at-inside, u32_back}
use Rattle.layout.proofs.Lengths.{be32-length}
use Rattle.layout.proofs.PutLaws.{Put, put_then, put_at-length}
use Rattle.layout_number_or_zero.specs.NumberOrZero.{word_at, long_at}
use Rattle.layout_number_or_zero.proofs.NumberLaws.{word_in, long_in}
use Rattle.c_opened.specs.KeptReader.{be64, put_long}

pub be64-length : (x : ℕ) → length (be64 x) ≡ 8
unfolding be64 be32
be64-length x = refl

pub halves-put : (a : List ℕ) (at x : ℕ) {b c : List ℕ} → b ≡ put_at a at (be32 (x / 4294967296)) → c ≡ put_at b (at + 4) (be32 (x % 4294967296)) → c ≡ put_long a at x
unfolding put_long
halves-put a at x e f = f ∙ ap (λ (b : List ℕ). put_at b (at + 4) (be32 (x % 4294967296))) e

-- where there is room they are its bytes
pub long-put : (a : List ℕ) (at x : ℕ) → at + 8 ≤ length a → put_long a at x ≡ put_at a at (be64 x)
unfolding put_long be64
long-put a at x h =
    let p : Put a at 4 (be32 (x / 4294967296)) (put_at a at (be32 (x / 4294967296))) = record { size = be32-length _; is = refl } in
    (put_then p (be32 (x % 4294967296)) (be32-length _) refl refl (omega arith)).is

pub put_long-length : (a : List ℕ) (at x : ℕ) → length (put_long a at x) ≡ length a
unfolding put_long
put_long-length a at x = put_at-length _ _ _ ∙ put_at-length a at _

-- ---- Read back

pub word_back : {s : List ℕ} (off : ℕ) {x : ℕ} → x < 4294967296 → At s off (be32 x) → word_at s off ≡ x
word_back {s} off {x} h a = word_in s off (omega (arith, at-inside a, be32-length x)) ∙ u32_back h a

pub long-back : {s : List ℕ} (off : ℕ) {x : ℕ} → x < 18446744073709551616 → At s off (be64 x) → long_at s off ≡ x
unfolding be64
long-back {s} off {x} h a =
    let p : word_at s off ≡ x / 4294967296 = word_back off (omega arith) (at_left (be32 (x / 4294967296)) (be32 (x % 4294967296)) a) in
    let q : word_at s (off + 4) ≡ x % 4294967296 =
    word_back (off + 4) (omega arith) (at_move (off + 4) (ap (λ (m : ℕ). off + m) (be32-length (x / 4294967296))) (at_right (be32 (x / 4294967296)) (be32 (x % 4294967296)) a)) in
    let g : off + 8 ≤ length s = omega (arith, at-inside a, be64-length x) in
    rw (long_in s off g, p, q) (omega arith)
