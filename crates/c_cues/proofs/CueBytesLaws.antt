-- A cue in bytes, put number by number.
use Prim.Native.Nat.{ℕ, ◌+◌, ◌≤◌}
use mathlib.Core.Path.{◌≡◌, refl, ap, ◌∙◌}
use mathlib.Core.List.{List}
use native.Mathlib.Omega.{arith}
use lib.ListN.{length}
use Rattle.layout.specs.Puts.{put_at}
use Rattle.layout.specs.Records.{be32}
use Rattle.layout.proofs.Lengths.{be32-length}
use Rattle.layout.proofs.PutLaws.{Put, put_then}
use Rattle.c_opened.specs.KeptReader.{be64, put_long}
use Rattle.c_opened.proofs.LongLaws.{be64-length, long-put}
use Rattle.c_cues.specs.CueBytes.{cue_kept, put_cue}

-- ---- A cue

pub cue-long : (start kind name : ℕ) → length (cue_kept start kind name) ≡ 16
unfolding cue_kept be64 be32
cue-long start kind name = refl

module _ (l : List ℕ) (at start kind name : ℕ) where
  pub three-put : {l1 l2 l3 : List ℕ} → l1 ≡ put_long l at start → l2 ≡ put_at l1 (at + 8) (be32 kind) → l3 ≡ put_at l2 (at + 12) (be32 name) → l3 ≡ put_cue l at start kind name
  unfolding put_cue
  three-put e1 e2 e3 = e3 ∙ ap (λ (b : List ℕ). put_at b (at + 12) (be32 name)) (e2 ∙ ap (λ (b : List ℕ). put_at b (at + 8) (be32 kind)) e1)

  -- where there is room the numbers are the cue's bytes
  pub cue-put : at + 16 ≤ length l → put_cue l at start kind name ≡ put_at l at (cue_kept start kind name)
  unfolding put_cue cue_kept
  cue-put h =
      let p : Put l at 8 (be64 start) (put_long l at start) = record { size = be64-length _; is = long-put l at start (omega arith) } in
      let q = put_then p (be32 kind) (be32-length _) refl refl (omega arith) in
      let e : at + 12 ≡ at + (8 + 4) = refl in
      (put_then q (be32 name) (be32-length _) refl e (omega arith)).is
