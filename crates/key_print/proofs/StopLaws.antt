-- A refusal's line in its room.
use Prim.Native.Nat.{ℕ, ◌+◌, ◌≤◌}
use mathlib.Core.Path.{◌≡◌, sym, ◌∙◌}
use mathlib.Core.List.{List}
use native.Mathlib.Omega.{arith}
use lib.ListN.{length, take, length-append}
use lib.Seq.{take_at}
use borrow.Author.Tests.{le-leb}
use Rattle.layout.proofs.PutLaws.{put_at_in}
use Rattle.key_lines.specs.Lines.{stop_line, LinePut}
use Rattle.key_lines.proofs.ColumnLaws.{column-length}

stop-length : (k : ℕ) → length (stop_line k) ≡ 16
stop-length k = simp length-append (omega (arith, column-length 11 k))

-- the room is the line
module _ {out after : List ℕ} (k : ℕ) {n : ℕ} (p : LinePut out 0 (stop_line k) after n) (room : length out ≡ 16) where
  fits : 0 + length (stop_line k) ≤ length out
  fits = omega (arith, stop-length k, room)

  pub stop-long : n ≡ length (stop_line k)
  stop-long = p.long ∙ rw (le-leb (0 + length (stop_line k)) (length out) fits)

  pub stop-put : take n after ≡ stop_line k
  stop-put = rw (p.put, put_at_in out 0 (stop_line k) fits) (take_at (stop_line k) _ n (sym stop-long))
