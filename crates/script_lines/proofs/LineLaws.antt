-- Tests that the code joins, and the kinds that an arm takes.
use Prim.Native.Nat.{ℕ, ◌≤◌}
use native.Mathlib.Omega.{arith}
use Rattle.std.specs.Prelude.{Option, Some, None, IfSome}
use Rattle.std.specs.Option.{unwrap_or}
use mathlib.Core.Path.{◌≡◌, refl, ap, sym, ◌∙◌}
use mathlib.Core.Bool.{false}
use mathlib.Core.List.{List}
use lib.Dec.{eqb}
use Rattle.layout.specs.Choice.{pick}
use borrow.Author.Tests.{ne_eqb}
use Rattle.writer.specs.declared.CueKind.{CueKind}
use Rattle.script_lines.specs.declared.kinds.Kind.{Kind}
use Rattle.script_lines.specs.declared.kinds.Kind.TheVariants as Kinds
use Rattle.script_lines.specs.Lines.{place, is_kind, cue_named, cue_said}

-- The kind at a place.
kind_at : ℕ → Kind
kind_at n =
    pick (eqb n 0) Kinds.Nothing
    (pick (eqb n 1) Kinds.Begin
    (pick (eqb n 2) Kinds.Point
    (pick (eqb n 3) Kinds.Loop
    (pick (eqb n 4) Kinds.Range
    (pick (eqb n 5) Kinds.Push
    (pick (eqb n 6) Kinds.Channel
    (pick (eqb n 7) Kinds.Finish
    (pick (eqb n 8) Kinds.Lent
    Kinds.Unknown))))))))

at_place : (k : Kind) → kind_at (place k) ≡ k
unfolding kind_at
at_place Kinds.Nothing = refl
at_place Kinds.Begin = refl
at_place Kinds.Point = refl
at_place Kinds.Loop = refl
at_place Kinds.Range = refl
at_place Kinds.Push = refl
at_place Kinds.Channel = refl
at_place Kinds.Finish = refl
at_place Kinds.Lent = refl
at_place Kinds.Unknown = refl

-- A kind that is not another.
pub not_kind : (k m : Kind) → (k ≡ m → ⊥) → is_kind k m ≡ false
not_kind k m h = ne_eqb (place k) (place m) (λ e. h (sym (at_place k) ∙ ap kind_at e ∙ at_place m))

pub point-line : (l : List ℕ) (k : Kind) → (k ≡ Kinds.Range → ⊥) → (k ≡ Kinds.Loop → ⊥) → cue_named l CueKind.Point 2 ≡ cue_said l k
unfolding cue_said
point-line l k h i = rw (not_kind k Kinds.Range h, not_kind k Kinds.Loop i)

-- A number that is answered is small, and 0 stands for none.
pub unwrap_small : {m : ℕ} (r : Option ℕ) → IfSome r (λ n. n ≤ m) → unwrap_or r 0 ≤ m
unwrap_small None h = omega arith
unwrap_small (Some n) h = h
