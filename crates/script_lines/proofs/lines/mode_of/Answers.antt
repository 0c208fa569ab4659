use Prim.Native.Nat.{ℕ}
use mathlib.Core.Path.{◌≡◌}
use borrow.Author.Tests.{ne_eqb}
use borrow.Author.Rules.{rules}
use Rattle.writer.specs.Loading.{mode_of}
use Rattle.writer.specs.declared.Looping.TheVariants.{Auto}
use Rattle.script_lines.proofs.lines.mode_of.Goals as goal

pub returns-in-0 : goal.returns-in-0
returns-in-0 c = rw c.in-0.is

pub returns-in-1 : goal.returns-in-1
returns-in-1 c = rw c.in-1.is

auto_else : (n : ℕ) → (n ≡ 0 → ⊥) → (n ≡ 1 → ⊥) → Auto ≡ mode_of n
auto_else n h i = rw (ne_eqb n 0 h, ne_eqb n 1 i)

pub returns-in_default : goal.returns-in_default
returns-in_default c = search (auto_else, rules)
