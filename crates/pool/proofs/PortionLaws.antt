-- A portion's answers in their room.
use Prim.Native.Nat.{ℕ, ◌+◌, ◌/◌, ◌≤◌}
use mathlib.Core.Path.{◌≡◌, sym, ap, ◌∙◌}
use mathlib.Core.List.{List}
use native.Mathlib.Omega.{arith}
use lib.ListN.{length, take}
use lib.Seq.{take_at}
use borrow.Author.Tests.{le-leb}
use Rattle.layout.specs.Puts.{put_at}
use Rattle.layout.proofs.PutLaws.{put_at_in, put_at-length}
use Rattle.script_words.specs.Texts.{parted}
use Rattle.frame_pool_lines.specs.PoolText.{answers_from, answers_in, answered_in}
use Rattle.frame_pool_lines.specs.declared.Progress.{Progress}
use Rattle.frame_pool_lines.specs.declared.LinesAnswered.{LinesAnswered}
use Rattle.frame_pool_lines.proofs.AnswerLaws.{answers-few}

module _ (g : Progress) (text before : List ℕ) {after : List ℕ} {r : LinesAnswered} (room : 65536 ≡ length before) (short : length text ≤ 4096)
    (e : r ≡ answered_in (length before) g text) (f : after ≡ put_at before 0 (answers_in (length before) g text)) where
  all-answered : answers_in (length before) g text ≡ answers_from g (parted text)
  all-answered = rw (le-leb (length text) (length before / 16) (omega arith))

  answers-long : r.length ≡ length (answers_from g (parted text))
  answers-long = ap (λ (a : LinesAnswered). a.length) e ∙ ap length all-answered

  answers_fit : 0 + length (answers_from g (parted text)) ≤ length before
  answers_fit = omega (arith, answers-few g text)

  pub answers-inside : r.length ≤ length after
  answers-inside = omega (arith, answers-long, answers_fit, ap length f ∙ put_at-length before 0 (answers_in (length before) g text))

  pub answers_taken : take r.length after ≡ answers_from g (parted text)
  answers_taken =
      let b = answers_from g (parted text) in
      ap (take r.length) (f ∙ ap (put_at before 0) all-answered ∙ put_at_in before 0 b answers_fit) ∙ take_at b _ r.length (sym answers-long)
