-- Whether a script is well formed: what a line leaves due, and the lines of a script one after the other.
use Prim.Native.Nat.{ℕ, suc, ◌+◌, ◌≤◌, ◌<◌}
use mathlib.Core.Path.{◌≡◌, refl, sym, ◌∙◌}
use mathlib.Core.Bool.{Bool, true, false}
use mathlib.Core.List.{List}
use native.Mathlib.Omega.{arith}
use native.Mathlib.Numerals.{add-one}
use borrow.Author.Tests.{eq-eqb, ne_eqb, lt-ltb, le-ltb}
use lib.Dec.{eqb}
use Rattle.std.specs.Prelude.{Some, None}
use Rattle.std.specs.Option.{is_some, unwrap_or}
use Rattle.std.specs.Bool.{then_some}
use lib.ListN.{length, drop, length-drop, drop_of_length-le}
use Rattle.layout.specs.Choice.{pick, ◌and◌}
use Rattle.script_words.specs.Texts.{line_of, lines_after, lines_of}
use Rattle.script_words.proofs.TextLaws.{lines_none, lines_next}
use Rattle.script_lines.specs.declared.kinds.Kind.{Kind}
use Rattle.script_lines.specs.declared.kinds.Kind.TheVariants as Kinds
use Rattle.script_lines.specs.declared.whole.Due.{Due}
use Rattle.script_lines.specs.Lines.{line_kind}
use Rattle.script_lines.specs.Whole.{due, says_all, after_call, after_channel, after_kind, after_line, wrong_from, wrong_line}
use Rattle.script_lines.proofs.LineLaws.{not_kind}

-- ---- A line

pub some_if : (b : Bool) (d : Due) → then_some b d ≡ pick b (Some d) None
some_if true d = refl
some_if false d = refl

pub call_plain : (l : List ℕ) (k : Kind) (b : Bool)
    → (k ≡ Kinds.Begin → ⊥) → (k ≡ Kinds.Push → ⊥) → (k ≡ Kinds.Lent → ⊥) → (k ≡ Kinds.Channel → ⊥) → due b b 0 ≡ after_call l k b
unfolding after_call
call_plain l k b f g h i = rw (not_kind k Kinds.Begin f, not_kind k Kinds.Push g, not_kind k Kinds.Lent h, not_kind k Kinds.Channel i)

pub no_channel_lem : (k : Kind) (n : ℕ) → (k ≡ Kinds.Channel → ⊥) → None ≡ after_channel k n
no_channel_lem k n h = rw (not_kind k Kinds.Channel h)

module _ (l : List ℕ) (d : Due) {k : Kind} (e : k ≡ line_kind l) where
  pub line-nothing : k ≡ Kinds.Nothing → Some d ≡ after_line l d
  unfolding after_line after_kind
  line-nothing f = rw (← e, f)

  module _ (o : k ≡ Kinds.Nothing → ⊥) where
    pub line_unsaid : says_all l k ≡ false → None ≡ after_line l d
    unfolding after_line after_kind
    line_unsaid f = rw (← e, not_kind k Kinds.Nothing o, f)

    pub line-channel : says_all l k ≡ true → 0 < d.channels → after_channel k d.channels ≡ after_line l d
    unfolding after_line after_kind
    line-channel f h = rw (← e, not_kind k Kinds.Nothing o, f, lt-ltb 0 d.channels h)

    pub line_call : says_all l k ≡ true → d.channels ≤ 0 → after_call l k d.begun ≡ after_line l d
    unfolding after_line after_kind
    line_call f h = rw (← e, not_kind k Kinds.Nothing o, f, le-ltb 0 d.channels h)

-- ---- The lines of a script

-- The line that goes wrong is the one from this line on.
pub record Walking (s : List ℕ) (d : Due) (n at : ℕ) : Type 0 where
  pub few : at ≤ length s
  pub some : 0 < n
  pub small : n ≤ at + 1
  pub is : wrong_line s ≡ wrong_from d n (lines_of (drop at s))

pub walk_none : (s : List ℕ) → Walking s (record { begun = false; channels = 0 }) 1 0
unfolding wrong_line
walk_none s = record { few = omega arith; some = omega arith; small = omega arith; is = refl }

module _ {s : List ℕ} {d : Due} {n at : ℕ} (w : Walking s d n at) where
  module _ {l : List ℕ} (h : at < length s) (e : l ≡ line_of (drop at s)) where
    walk_line : wrong_line s ≡ pick (is_some (after_line l d)) (wrong_from (unwrap_or (after_line l d) d) (suc n) (lines_of (lines_after (drop at s)))) n
    unfolding wrong_from
    walk_line = w.is ∙ rw (lines_next (drop at s) (simp length-drop (omega arith)), ← e)

    pub walk_wrong : None ≡ after_line l d → n ≡ wrong_line s
    walk_wrong f = sym (walk_line ∙ rw (← f))

    pub walk_more : {t : Due} {r : ℕ} → Some t ≡ after_line l d → drop r s ≡ lines_after (drop at s) → (r ≤ length s) × (at < length s → at < r) → Walking s t (n + 1) r
    walk_more {t} {r} f i b =
        record { few = b.0; some = omega arith; small = omega (arith, w.small, b.1 h); is = walk_line ∙ rw (← f, i, add-one n) }

  walk_end : length s ≤ at → wrong_line s ≡ pick (d.begun and eqb d.channels 0) 0 n
  unfolding wrong_from
  walk_end h = w.is ∙ rw (drop_of_length-le s {i = at} h, lines_none)

  pub walk_unbegun : length s ≤ at → d.begun ≡ false → n ≡ wrong_line s
  walk_unbegun h f = sym (walk_end h ∙ rw f)

  module _ (h : length s ≤ at) (f : d.begun ≡ true) where
    pub walk_due : 0 < d.channels → n ≡ wrong_line s
    walk_due g = sym (walk_end h ∙ rw (f, ne_eqb d.channels 0 (λ z. omega arith)))

    pub walk_all : d.channels ≤ 0 → 0 ≡ wrong_line s
    walk_all g = sym (walk_end h ∙ rw (f, eq-eqb d.channels 0 (omega arith)))
