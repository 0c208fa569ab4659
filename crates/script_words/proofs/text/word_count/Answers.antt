use Prim.Native.Nat.{◌+◌}
use mathlib.Core.Path.{◌≡◌}
use mathlib.Core.Bool.{not}
use Rattle.layout.specs.Choice.{pick, ◌and◌}
use Rattle.script_words.proofs.TextLaws.{count_none, count-more, count-all}
use borrow.Author.Rules.{rules}
use Rattle.script_words.proofs.text.word_count.Goals as goal
use Rattle.script_words.proofs.text.word_count.Goals.{Joined-not-blank, then-not-blank+then-apart, else-not-blank, else-not-blank-via-then-not-blank+else-apart, else-not-blank-via-else-not-blank}

counted : (c : Joined-not-blank) → (c.if-not-blank.apart ≡ c.is_blank-blank.result) × (c.if-not-blank.count ≡ pick (not c.is_blank-blank.result and c.loop-byte.apart) (c.loop-byte.count + 1) c.loop-byte.count)
counted c =
    elim c.if-not-blank.branch [
      | then-not-blank+then-apart w ↦ (w.apart-is, rw (w.if-not-blank.true, w.if-apart.true) w.count-is)
      | else-not-blank w ↦
          elim w.else-not-blank.branch [
            | else-not-blank-via-then-not-blank+else-apart u ↦ (w.apart-is, rw (u.if-not-blank.true, u.if-apart.false) w.count-is)
            | else-not-blank-via-else-not-blank u ↦ (w.apart-is, rw u.if-not-blank.false w.count-is)
          ]
    ]

pub loop-byte-init : goal.loop-byte-init
loop-byte-init c = count_none _

pub loop-byte-preserved : goal.loop-byte-preserved
loop-byte-preserved c =
    let e = counted c in
    rw e.0 (count-more c.loop-byte.invariant (search rules) c.is_blank-blank.ensures e.1)

pub returns : goal.returns
returns c = count-all c.loop-byte.invariant (search rules)
