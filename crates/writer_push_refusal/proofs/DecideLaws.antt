-- Groups of refusals, one before the other: the first number due is that of the first group that has one.
use Rattle.std.proofs.Common.{◌≡◌, ℕ, suc, Bool, List, [], ◌∷◌, ◌++◌, refl, arith}
use borrow.Author.Tests.{eqb-false}
use Rattle.layout.specs.Answers.{number_of}
use Rattle.layout.specs.Refusals.{Due, due, first_due}
use Rattle.layout.specs.declared.refusal.Refusal.{Refusal}
use Rattle.layout.proofs.Cases.{by_cases}
use Rattle.writer.proofs.DueLaws.{not_zero}

-- Refusals with a number each.
pub data Numbered : List Due → Type 0 where
  none : Numbered []
  more : {n : ℕ} {t : Bool} {ds : List Due} → Numbered ds → Numbered (due (suc n) t ∷ ds)

-- A group before others: its first number due, or theirs where none of its own is.
pub group_yes : (x : ℕ) (ds es : List Due) → x ≡ first_due ds → (x ≡ 0 → ⊥) → x ≡ first_due (ds ++ es)
unfolding first_due
group_yes x [] es e h = absurd (h e)
group_yes x (d ∷ ds) es e h =
    by_cases d.holds (λ q. rw q (rw q at e)) (λ q. rw q (group_yes x ds es (rw q at e) h))

pub group_no : (x v : ℕ) (ds es : List Due) → Numbered ds → x ≡ first_due ds → x ≡ 0 → v ≡ first_due es → v ≡ first_due (ds ++ es)
unfolding first_due
group_no x v [] es none e z q = q
group_no x v (d ∷ ds) es (more {n = n} {t = t} m) e z q =
    by_cases t (λ p. let k : x ≡ suc n = rw p at e in absurd (omega arith)) (λ p. rw p (group_no x v ds es m (rw p at e) z q))

-- the groups after one count by their first number due
pub group_same : (ds es fs : List Due) → first_due es ≡ first_due fs → first_due (ds ++ es) ≡ first_due (ds ++ fs)
unfolding first_due
group_same [] es fs h = h
group_same (d ∷ ds) es fs h = by_cases d.holds (λ q. rw q) (λ q. rw q (group_same ds es fs h))

-- and none of theirs is due where none is at all
pub group_none : (ds es : List Due) → Numbered ds → first_due (ds ++ es) ≡ 0 → first_due es ≡ 0
unfolding first_due
group_none [] es none h = h
group_none (d ∷ ds) es (more {n = n} {t = t} m) h =
    by_cases t (λ p. let k : suc n ≡ 0 = rw p at h in absurd (omega arith)) (λ p. group_none ds es m (rw p at h))

-- the same, of a group that refuses, and of one that lets through
pub refused_by : (x : Refusal) (ds es : List Due) → number_of x ≡ first_due ds → number_of x ≡ first_due (ds ++ es)
refused_by x ds es e = group_yes (number_of x) ds es e (eqb-false (number_of x) 0 (not_zero x))

pub passed_by : {v : ℕ} (ds es : List Due) → Numbered ds → 0 ≡ first_due ds → v ≡ first_due es → v ≡ first_due (ds ++ es)
passed_by {v} ds es m e q = group_no 0 v ds es m e refl q
