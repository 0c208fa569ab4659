use mathlib.Core.Path.{sym, ◌∙◌}
use Rattle.layout_read.proofs.MagicLaws.{magic_short, magic_compared}
use Rattle.layout_read.proofs.file.read_magic.Goals as goal

pub returns-then-s-lt8 : goal.returns-then-s-lt8
returns-then-s-lt8 c = magic_short _ c.if-s-lt8.true

pub returns-then-starts_with : goal.returns-then-starts_with
returns-then-starts_with c = magic_compared _ c.if-s-lt8.false (sym c.if-starts_with.true ∙ c.starts_with.ensures.value)

pub returns-else-starts_with : goal.returns-else-starts_with
returns-else-starts_with c = magic_compared _ c.if-s-lt8.false (sym c.if-starts_with.false ∙ c.starts_with.ensures.value)
