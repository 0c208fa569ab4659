use mathlib.Core.Path.{◌≡◌, sym, ◌∙◌}
use lib.ListN.{get_or}
use borrow.Author.Rules.{rules}
use Rattle.script_words.proofs.NumberLaws.{minus_word, plain_word, empty-start}
use Rattle.script_words.proofs.numbers.signed.Goals as goal
use Rattle.script_words.proofs.numbers.signed.Goals.{In_default, in_default-via-then-word-lt1, in_default-via-in-len1-up+else-sign-eq-MINUS}

no_minus : (c : In_default) → get_or c.args.word.now 0 0 ≡ 45 → ⊥
no_minus c =
    elim c.in_default.branch [
      | in_default-via-then-word-lt1 w ↦ empty-start c.args.word.now (search rules)
      | in_default-via-in-len1-up+else-sign-eq-MINUS w ↦ search rules
    ]

pub returns-in_err-unsigned-in-len1-up : goal.returns-in_err-unsigned-in-len1-up
returns-in_err-unsigned-in-len1-up c =
    let e = minus_word c.args.word.now (search rules) (search rules) c.in_err-unsigned-in-len1-up.ensures.value in
    c.from_residual.ensures ∙ sym e

pub returns-in_err-unsigned-in_default : goal.returns-in_err-unsigned-in_default
returns-in_err-unsigned-in_default c =
    let e = plain_word c.args.word.now (no_minus (goal.at.returns-in_err-unsigned-in_default c).In_default) c.in_err-unsigned-in_default.ensures.value in
    c.from_residual-in_err-unsigned-in_default.ensures ∙ sym e

pub returns-in_ok-unsigned-in-len1-up : goal.returns-in_ok-unsigned-in-len1-up
returns-in_ok-unsigned-in-len1-up c =
    let e = minus_word c.args.word.now (search rules) (search rules) c.in_ok-unsigned-in-len1-up.ensures.value in
    search (e, rules)

pub returns-in_ok-unsigned-in_default : goal.returns-in_ok-unsigned-in_default
returns-in_ok-unsigned-in_default c =
    let e = plain_word c.args.word.now (no_minus (goal.at.returns-in_ok-unsigned-in_default c).In_default) c.in_ok-unsigned-in_default.ensures.value in
    search (e, rules)
