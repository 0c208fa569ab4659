-- For the proof of finish: its refusals, the header, its bytes in the order of the writes, and what finish leaves.
use Prim.Native.Nat.{ℕ, ◌/◌, ◌%◌, ◌<◌, ◌≤◌}
use mathlib.Core.Path.{◌≡◌, refl, sym, ◌∙◌}
use mathlib.Core.List.{List, ◌++◌, append_assoc, append-nil}
use native.Mathlib.Omega.{arith}
use borrow.Author.Tests.{eqb-false, ltb-false}
use lib.Dec.{eqb}
use lib.ListN.{length, take, drop, replicate, length-append, length-take, length-drop}
use Rattle.layout.specs.Records.{be32, no_channel, file_header_bytes, file_header_size}
use Rattle.layout.specs.Answers.{number_of}
use Rattle.layout.specs.declared.refusal.Refusal.{Refusal}
use Rattle.layout.specs.Puts.{put_at}
use Rattle.layout.specs.declared.Channel.{Channel}
use Rattle.layout.proofs.Cases.{by_cases}
use Rattle.layout.proofs.Lengths.{file_header-length}
use Rattle.layout.proofs.PutLaws.{Put, put_then, put_at_in}
use Rattle.writer.specs.declared.ChannelBlock.{ChannelBlock}
use Rattle.writer.specs.declared.HpsWriter.{HpsWriter}
use Rattle.writer.specs.declared.Called.{Called}
use Rattle.writer.specs.Loading.{finish_refusal, filled, second, header_for, header_writes, start_write, rest_write, mark_write}
use Rattle.writer.specs.WritesAndCuttingRule.{handed}
use Rattle.writer.specs.Calls.{Handed, refuses, header_of, after_finish, finish_of, called, called_says, Good}
use Rattle.writer.specs.declared.Writes.{Writes}
use Rattle.std.specs.Prelude.{Ok}
use Rattle.writer.proofs.DueLaws.{passed_finish, is_refused}
use Rattle.writer.proofs.GoodLaws.{finish_good}

-- ---- The header's bytes in the lent buffer

module _ (h : List ℕ) (size : length h ≡ file_header_size) where
  start_15 : length (take 15 h) ≡ 15
  start_15 = length-take 15 h ∙ omega arith

  rest_112 : length (take 112 (drop 16 h)) ≡ 112
  rest_112 = length-take 112 (drop 16 h) ∙ omega (arith, length-drop 16 h)

  mark_1 : length (take 1 (drop 15 h)) ≡ 1
  mark_1 = length-take 1 (drop 15 h) ∙ omega (arith, length-drop 15 h)

  handed_128 : length (handed (header_writes h)) ≡ file_header_size
  unfolding handed
  handed_128 = simp (length-append, start_15, rest_112, mark_1)

  pub handed_out : (l l₁ l₂ l₃ : List ℕ) → file_header_size ≤ length l → l₁ ≡ put_at l 0 (take 15 h) → l₂ ≡ put_at l₁ 15 (take 112 (drop 16 h)) → l₃ ≡ put_at l₂ 127 (take 1 (drop 15 h))
      → l₃ ≡ handed (header_writes h) ++ drop file_header_size l
  unfolding handed
  handed_out l l₁ l₂ l₃ room e₁ e₂ e₃ =
      let a : Put l 0 15 (take 15 h) l₁ = record { size = start_15; is = e₁ } in
      let b = put_then {m = 112} a (take 112 (drop 16 h)) rest_112 e₂ refl (omega arith) in
      let c = put_then {m = 1} b (take 1 (drop 15 h)) mark_1 e₃ refl (omega arith) in
      let z = c.size in
      c.is ∙ put_at_in l 0 _ (omega arith) ∙ rw z (simp (append_assoc, append-nil))

-- ---- The header

be32_low : (n : ℕ) → be32 (n % 4294967296) ≡ be32 n
unfolding be32
be32_low n =
    let a : n % 4294967296 / 16777216 % 256 ≡ n / 16777216 % 256 = omega arith in
    let b : n % 4294967296 / 65536 % 256 ≡ n / 65536 % 256 = omega arith in
    let c : n % 4294967296 / 256 % 256 ≡ n / 256 % 256 = omega arith in
    let d : n % 4294967296 % 256 ≡ n % 256 = omega arith in
    rw (a, b, c, d)

low_count : (rate n : ℕ) (l r : Channel) → file_header_bytes rate (n % 4294967296) l r ≡ file_header_bytes rate n l r
unfolding file_header_bytes
low_count rate n l r = rw (be32_low n)

second_16 : (ch n : ℕ) (r : ChannelBlock) → length r.coefficients ≡ 16 → length (second ch n r).coefficients ≡ 16
unfolding second filled no_channel
second_16 ch n r h = by_cases (eqb ch 2) (λ q. rw q h) (λ q. rw q)

filled_16 : (n : ℕ) (l : ChannelBlock) → length l.coefficients ≡ 16 → length (filled n l).coefficients ≡ 16
unfolding filled
filled_16 n l h = h

whole : (b : List ℕ) → length b ≡ file_header_size → put_at (replicate file_header_size 0) 0 b ≡ b
whole b h = put_at_in (replicate file_header_size 0) 0 b (omega arith) ∙ rw h (append-nil b)

pub header_is : (b : List ℕ) (ch n k : ℕ) (l r : ChannelBlock) (x y : Channel) → length l.coefficients ≡ 16 → length r.coefficients ≡ 16
    → x ≡ filled n l → y ≡ second ch n r → k ≡ ch % 4294967296 → b ≡ put_at (replicate file_header_size 0) 0 (file_header_bytes l.rate k x y) → b ≡ header_for ch n l r
unfolding header_for
header_is b ch n k l r x y hl hr ex ey ek e =
    let size = file_header-length l.rate ch (filled n l) (second ch n r) (filled_16 n l hl) (second_16 ch n r hr) in
    e ∙ rw (ex, ey, ek, low_count l.rate ch (filled n l) (second ch n r)) (whole _ size)

-- ---- What finish leaves

module _ (w : HpsWriter) (lent : List ℕ) (g : Good w) where
  pub finish_refused : (x : Refusal) → number_of x ≡ finish_refusal w.finished w.stream.blocks w.stream.last (length lent) → finish_of w lent ≡ refuses w lent (number_of x)
  unfolding finish_of
  finish_refused x e =
      let h = header_of w in
      is_refused w (after_finish w) lent (Handed.three w.stream.offset (start_write h) (rest_write h) (mark_write h)) x e

  module _ (e : 0 ≡ finish_refusal w.finished w.stream.blocks w.stream.last (length lent)) where
    pub sum_fits : (0 < w.stream.sum) × (w.stream.sum ≤ 4294967296)
    sum_fits =
        let b = eqb-false w.stream.blocks 0 (passed_finish _ _ _ _ (sym e)).no27 in
        omega (arith, g.counted, g.sums, g.many)

    pub room : file_header_size ≤ length lent
    room = ltb-false (length lent) file_header_size (passed_finish _ _ _ _ (sym e)).no14

    abbrev Leaves : Called → List ℕ → Type 0
    Leaves q l = (called_says q ≡ called (finish_of w lent)) × ((l ≡ (finish_of w lent).lent) × Good q.writer)

    pub finish_accepted : (h l : List ℕ) (v : HpsWriter) → h ≡ header_of w → length h ≡ file_header_size → l ≡ handed (header_writes h) ++ drop file_header_size lent → v ≡ after_finish w
        → Leaves (record { answer = Ok (Writes.Three w.stream.offset (record { offset = 0; length = 15 }) (record { offset = 16; length = 112 }) (record { offset = 15; length = 1 })); writer = v }) l
    unfolding finish_of
    finish_accepted h l v eh size el ev =
        rw (← e, ← eh, start_15 h size, rest_112 h size, mark_1 h size, handed_128 h size, ev, el) (refl, (refl, finish_good w (length lent) g (sym e)))
