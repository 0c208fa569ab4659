use Rattle.script_lines.specs.Lines.{says_cue}
use Rattle.script_lines.proofs.LineLaws.{not_kind}
use Rattle.script_lines.specs.declared.kinds.Kind.TheVariants as Kinds
use Rattle.script_lines.proofs.lines.says_cue.Goals as goal

pub returns-then-says_named : goal.returns-then-says_named
unfolding says_cue
returns-then-says_named c = rw (c.in-Range.is, ← c.says_named.ensures, c.if-says_named.true) c.says_number.ensures

pub returns-else-says_named : goal.returns-else-says_named
unfolding says_cue
returns-else-says_named c = rw (c.in-Range.is, ← c.says_named.ensures, c.if-says_named.false)

pub returns-in_default : goal.returns-in_default
unfolding says_cue
returns-in_default c = rw (not_kind _ Kinds.Range c.in_default.not-Range) c.says_named-in_default.ensures
