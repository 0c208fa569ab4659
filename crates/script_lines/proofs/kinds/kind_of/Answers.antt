use borrow.Author.Tests.{eq-eqb, ne_eqb}
use Rattle.script_lines.specs.Lines.{line_kind}
use Rattle.script_lines.proofs.kinds.kind_of.Goals as goal

pub returns-then-count-eq0 : goal.returns-then-count-eq0
unfolding line_kind
returns-then-count-eq0 c = rw (← c.word_count-count.ensures, eq-eqb _ _ c.if-count-eq0.true)

pub returns-then-name-ne4 : goal.returns-then-name-ne4
unfolding line_kind
returns-then-name-ne4 c = rw (← c.word_count-count.ensures, ne_eqb _ _ c.if-count-eq0.false, ← c.word-name.ensures, ne_eqb _ _ c.if-name-ne4.true)

pub returns : goal.returns
unfolding line_kind
returns c =
    rw (
      ← c.word_count-count.ensures,
      ne_eqb _ _ c.if-count-eq0.false,
      ← c.word-name.ensures,
      eq-eqb _ _ c.if-name-ne4.false,
      ← c.word.ensures,
    )
    c.named.ensures
