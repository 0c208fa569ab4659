use Prim.Native.Nat.{ℕ}
use mathlib.Core.Path.{◌≡◌}
use borrow.Author.Tests.{ne_eqb}
use borrow.Author.Rules.{rules}
use Rattle.script_lines.specs.declared.kinds.Kind.TheVariants.{Unknown}
use Rattle.script_lines.specs.Lines.{name_said}
use Rattle.script_lines.proofs.kinds.named.Goals as goal

pub returns-in-1111836494 : goal.returns-in-1111836494
unfolding name_said
returns-in-1111836494 c = rw c.in-1111836494.is c.with_words.ensures

pub returns-in-1129661776 : goal.returns-in-1129661776
unfolding name_said
returns-in-1129661776 c = rw c.in-1129661776.is c.with_words-in-1129661776.ensures

pub returns-in-1280266064 : goal.returns-in-1280266064
unfolding name_said
returns-in-1280266064 c = rw c.in-1280266064.is c.with_words-in-1280266064.ensures

pub returns-in-1129661778 : goal.returns-in-1129661778
unfolding name_said
returns-in-1129661778 c = rw c.in-1129661778.is c.with_words-in-1129661778.ensures

pub returns-in-1347769160 : goal.returns-in-1347769160
unfolding name_said
returns-in-1347769160 c = rw c.in-1347769160.is c.with_words-in-1347769160.ensures

pub returns-in-1128808782 : goal.returns-in-1128808782
unfolding name_said
returns-in-1128808782 c = rw c.in-1128808782.is c.with_words-in-1128808782.ensures

pub returns-in-1179209289 : goal.returns-in-1179209289
unfolding name_said
returns-in-1179209289 c = rw c.in-1179209289.is c.with_words-in-1179209289.ensures

pub returns-in-1279610452 : goal.returns-in-1279610452
unfolding name_said
returns-in-1279610452 c = rw c.in-1279610452.is c.with_words-in-1279610452.ensures

-- A word that is none of these names nothing.
no_name : (w n : ℕ)
    → (w ≡ 1111836494 → ⊥) → (w ≡ 1129661776 → ⊥) → (w ≡ 1280266064 → ⊥) → (w ≡ 1129661778 → ⊥) → (w ≡ 1347769160 → ⊥) → (w ≡ 1128808782 → ⊥) → (w ≡ 1179209289 → ⊥) → (w ≡ 1279610452 → ⊥)
    → Unknown ≡ name_said w n
unfolding name_said
no_name w n f g h i j l o p = rw (
  ne_eqb w 1111836494 f,
  ne_eqb w 1129661776 g,
  ne_eqb w 1280266064 h,
  ne_eqb w 1129661778 i,
  ne_eqb w 1347769160 j,
  ne_eqb w 1128808782 l,
  ne_eqb w 1179209289 o,
  ne_eqb w 1279610452 p,
)

pub returns-in_default : goal.returns-in_default
returns-in_default c = search (no_name, rules)
