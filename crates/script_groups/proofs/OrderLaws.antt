-- Which line comes next.
use Prim.Native.Nat.{ℕ, zero, suc, ◌<◌, ◌≤◌}
use mathlib.Core.Path.{◌≡◌, refl, ap, sym, ◌∙◌}
use mathlib.Core.Bool.{true, false}
use mathlib.Core.List.{List, [], ◌∷◌}
use native.Mathlib.Omega.{arith}
use lib.ListN.{length, take, drop, get_or, length-drop, drop_of_length-le}
use lib.Dec.{eqb}
use borrow.Author.Tests.{eq-eqb, ne_eqb}
use Rattle.layout.specs.Lists.{filter, first_index}
use Rattle.script_words.specs.Texts.{word_count, line_of, lines_after, lines_of, uncommented}
use Rattle.script_words.proofs.TextLaws.{lines_none, lines_next}
use Rattle.script_lines.specs.Lines.{line_kind, lent_line}
use Rattle.script_lines.specs.declared.kinds.Kind.{Kind}
use Rattle.script_lines.proofs.LineLaws.{not_kind}
use Rattle.script_lines.specs.declared.kinds.Kind.TheVariants as Kinds
use Rattle.script_groups.specs.Order.{said, sides_in, lent_by, opening_from, Said, Starts}

-- ---- Kinds

pub lent_set : {k : Kind} (l : List ℕ) (n : ℕ) {r : ℕ} → k ≡ Kinds.Lent → r ≡ lent_line l → r ≡ lent_by k l n
unfolding lent_by
lent_set l n e r = rw (e, r)

pub lent_kept : (k : Kind) (l : List ℕ) {n : ℕ} → (k ≡ Kinds.Lent → ⊥) → n ≡ lent_by k l n
unfolding lent_by
lent_kept k l h = rw (not_kind k Kinds.Lent h)

-- ---- The end of a text

line_end : line_of [] ≡ []
unfolding line_of uncommented first_index
line_end = refl

next_end : lines_after [] ≡ []
unfolding lines_after first_index
next_end = refl

-- From a place on there is a line, or nothing.
lines_at : (s : List ℕ) (at : ℕ) → at < length s → lines_of (drop at s) ≡ line_of (drop at s) ∷ lines_of (lines_after (drop at s))
lines_at s at h = lines_next (drop at s) (omega (arith, length-drop at s))

past_end : (s : List ℕ) (at : ℕ) → length s ≤ at → drop at s ≡ []
past_end s at h = drop_of_length-le s h

-- ---- The first line with a word

-- The lines before this place have no word.
pub record Seeking (s : List ℕ) (from at : ℕ) : Type 0 where
  pub is : filter said (lines_of (drop from s)) ≡ filter said (lines_of (drop at s))

pub seek_none : (s : List ℕ) (from : ℕ) → Seeking s from from
seek_none s from = record { is = refl }

module _ {s : List ℕ} {from at : ℕ} (k : Seeking s from at) where
  pub seek_found : {line : List ℕ} {n : ℕ} → at < length s → line ≡ line_of (drop at s) → n ≡ word_count line → (n ≡ 0 → ⊥) → Said s from at
  unfolding filter said
  seek_found h l e z =
      let q : eqb (word_count (line_of (drop at s))) 0 ≡ false = rw l at (ne_eqb _ 0 (λ x. z (e ∙ x))) in
      let f : filter said (lines_of (drop from s)) ≡ line_of (drop at s) ∷ filter said (lines_of (lines_after (drop at s))) = k.is ∙ rw (lines_at s at h, q) in
      record { line = sym (ap (λ (ls : List (List ℕ)). get_or ls 0 []) f); rest = sym (ap (drop 1) f) }

  pub seek_more : {line : List ℕ} {n next : ℕ} → at < length s → line ≡ line_of (drop at s) → n ≡ word_count line → n ≡ 0 → drop next s ≡ lines_after (drop at s) → Seeking s from next
  unfolding filter said
  seek_more h l e z d =
      let q : eqb (word_count (line_of (drop at s))) 0 ≡ true = rw l at (eq-eqb _ 0 (sym e ∙ z)) in
      record { is = k.is ∙ rw (lines_at s at h, q, d) }

  pub seek_end : length s ≤ at → Said s from at
  unfolding filter
  seek_end h =
      let f : filter said (lines_of (drop from s)) ≡ [] = k.is ∙ rw (past_end s at h, lines_none) in
      record { line = rw (past_end s at h, line_end, f); rest = rw (past_end s at h, next_end, lines_none, f) }

-- ---- A push's sides

module _ (s : List ℕ) (from : ℕ) where
  none : (i : ℕ) → line_of (drop (length s) s) ≡ get_or {A = List ℕ} [] i []
  none i = rw (past_end s (length s) (omega arith), line_end)

  abbrev lines : List (List ℕ)
  lines = lines_of (drop from s)

  pub sides_none : {n : ℕ} (i : ℕ) → n ≡ 0 → line_of (drop (length s) s) ≡ get_or (sides_in n lines) i []
  unfolding sides_in
  sides_none i z = rw z (none i)

  first_of : (n : ℕ) (ls : List (List ℕ)) → (n ≡ 0 → ⊥) → get_or (take n ls) 0 [] ≡ get_or ls 0 []
  first_of zero ls h = absurd (h refl)
  first_of (suc n) [] h = refl
  first_of (suc n) (l ∷ ls) h = refl

  second_of : (n : ℕ) (ls : List (List ℕ)) → (n ≡ 0 → ⊥) → (n ≡ 1 → ⊥) → get_or (take n ls) 1 [] ≡ get_or (drop 1 ls) 0 []
  second_of zero ls h g = absurd (h refl)
  second_of (suc zero) ls h g = absurd (g refl)
  second_of (suc (suc n)) [] h g = refl
  second_of (suc (suc n)) (l ∷ []) h g = refl
  second_of (suc (suc n)) (l ∷ m ∷ ls) h g = refl

  one_of : (ls : List (List ℕ)) → get_or (take 1 ls) 1 [] ≡ []
  one_of [] = refl
  one_of (l ∷ ls) = refl

  pub left-side : {n at : ℕ} → (n ≡ 0 → ⊥) → Said s from at → line_of (drop at s) ≡ get_or (sides_in n lines) 0 []
  unfolding sides_in
  left-side {n} h x = x.line ∙ sym (first_of n (filter said lines) h)

  pub no_right : {n : ℕ} → n ≡ 1 → line_of (drop (length s) s) ≡ get_or (sides_in n lines) 1 []
  unfolding sides_in
  no_right z = rw z (none 0 ∙ sym (one_of (filter said lines)))

  pub right_side_lem : {n at next right : ℕ} → (n ≡ 0 → ⊥) → (n ≡ 1 → ⊥) → Said s from at → drop next s ≡ lines_after (drop at s) → Said s next right → line_of (drop right s) ≡ get_or (sides_in n lines) 1 []
  unfolding sides_in
  right_side_lem {n} h g x d y = y.line ∙ rw d (ap (λ (ls : List (List ℕ)). get_or ls 0 []) x.rest) ∙ sym (second_of n (filter said lines) h g)

-- ---- BEGN's line

-- The lines before this place are no BEGN.
pub record Opens (s : List ℕ) (lent at here : ℕ) : Type 0 where
  pub is : opening_from lent (lines_of s) ≡ opening_from here (lines_of (drop at s))

pub opens-none : (s : List ℕ) (lent : ℕ) → Opens s lent 0 lent
opens-none s lent = record { is = refl }

module _ {s : List ℕ} {lent at here : ℕ} (k : Opens s lent at here) where
  module _ {line : List ℕ} {kind : Kind} (h : at < length s) (l : line ≡ line_of (drop at s)) (e : kind ≡ line_kind line) where
    pub opens-here : kind ≡ Kinds.Begin → Starts s lent (record { at = at; lent = here })
    unfolding opening_from
    opens-here q =
        let f : opening_from lent (lines_of s) ≡ record { line = line_of (drop at s); lent = here; rest = lines_of (lines_after (drop at s)) } = k.is ∙ rw (lines_at s at h, ← l, ← e, q) in
        record { line = rw f; buffer = rw f; rest = rw f }

    pub opens_later : {next more : ℕ} → (kind ≡ Kinds.Begin → ⊥) → more ≡ lent_by kind line here → drop next s ≡ lines_after (drop at s) → Opens s lent next more
    unfolding opening_from
    opens_later q m d = record { is = k.is ∙ rw (lines_at s at h, ← l, ← e, not_kind kind Kinds.Begin q, m, d) }

  pub opens_never : length s ≤ at → Starts s lent (record { at = at; lent = here })
  unfolding opening_from
  opens_never h =
      let z = past_end s at h in
      let f : opening_from lent (lines_of s) ≡ record { line = []; lent = here; rest = [] } = k.is ∙ rw (z, lines_none) in
      record { line = rw (z, f, line_end); buffer = rw f; rest = rw (z, f, next_end, lines_none) }
