-- For the table of cues: the derived order of two cues and equality are the ones that specs/ writes out.
use Rattle.std.proofs.Common.{◌≡◌, ℕ, ◌+◌, ◌-◌, ◌<◌, ◌≤◌, List, [], ◌∷◌, ◌++◌, take, drop, refl, ◌∙◌, append_assoc, add-one, arith}
use Rattle.std.proofs.Math.ListN.{set, get_or, length}
use Rattle.std.proofs.Math.Seq.{paste, take-suc, set_at, length-take-le}
use Rattle.std.specs.List.{list_any}
use Rattle.std.specs.Ordering.{partial_lt}
use Rattle.layout.specs.Lists.{same}
use Rattle.writer.specs.Loading.{before, lex_lt, has, fields}
use Rattle.writer.specs.declared.Cue.{Cue}
use Rattle.writer.specs.declared.CueKind.{CueKind}
use Rattle.writer.specs.declared.CueKind.TheVariants.{Point, Loop, Range}
use Rattle.writer.specs.contracts.CuePartialOrd.TheImpl.{partial_cmp-value}
use Rattle.writer.specs.contracts.CuePartialEq.TheImpl as partial_eq

before_parts : (s t : ℕ) (k l : CueKind) (n m : ℕ)
    → partial_lt (partial_cmp-value).it (record { start = s; kind = k; name = n }) (record { start = t; kind = l; name = m })
    ≡ before (record { start = s; kind = k; name = n }) (record { start = t; kind = l; name = m })
unfolding before lex_lt
before_parts s t Point Point n m = grind arith
before_parts s t Point Loop n m = grind arith
before_parts s t Point (Range y) n m = grind arith
before_parts s t Loop Point n m = grind arith
before_parts s t Loop Loop n m = grind arith
before_parts s t Loop (Range y) n m = grind arith
before_parts s t (Range x) Point n m = grind arith
before_parts s t (Range x) Loop n m = grind arith
before_parts s t (Range x) (Range y) n m = grind arith

pub is_before : (c d : Cue) → partial_lt (partial_cmp-value).it c d ≡ before c d
is_before c d = before_parts c.start d.start c.kind d.kind c.name d.name

same_parts : (s t : ℕ) (k l : CueKind) (n m : ℕ)
    → (partial_eq.ghosts).eq (record { start = s; kind = k; name = n }) (record { start = t; kind = l; name = m })
    ≡ same (fields (record { start = t; kind = l; name = m })) (fields (record { start = s; kind = k; name = n }))
unfolding same
same_parts s t Point Point n m = grind arith
same_parts s t Point Loop n m = grind arith
same_parts s t Point (Range y) n m = grind arith
same_parts s t Loop Point n m = grind arith
same_parts s t Loop Loop n m = grind arith
same_parts s t Loop (Range y) n m = grind arith
same_parts s t (Range x) Point n m = grind arith
same_parts s t (Range x) Loop n m = grind arith
same_parts s t (Range x) (Range y) n m = grind arith

pub is_held : (c : Cue) (cs : List Cue) → list_any (λ d. (partial_eq.ghosts).eq d c) cs ≡ has c cs
unfolding has
is_held c [] = refl
is_held c (d ∷ ds) = rw (← is_held c ds, ← same_parts d.start c.start d.kind c.kind d.name c.name) (grind arith)

-- The cues from i to n moved on by one, and the cue put at i.
pub put_in_place : (i n : ℕ) (t : List Cue) (c : Cue) {u : List Cue} → u ≡ paste t (i + 1) (drop i t) (n - i) → i ≤ n → n < length t
    → set u i c ≡ take i t ++ (c ∷ (take (n - i) (drop i t) ++ drop (n + 1) t))
put_in_place i n t c {u} e h l =
    let m : i + 1 + (n - i) ≡ n + 1 = omega arith in
    let k : i < length t = omega arith in
    let first : take (i + 1) t ≡ take i t ++ (get_or t i c ∷ []) = rw add-one (take-suc t i c k) in
    let parts : u ≡ take i t ++ (get_or t i c ∷ (take (n - i) (drop i t) ++ drop (n + 1) t)) = e ∙ rw (first, m) (simp append_assoc) in
    rw parts (set_at (take i t) (get_or t i c) _ c i (length-take-le i t (omega arith)))
