-- Reads and what they answer: what a value or a refusal says of the slot, and which answer a read comes to.
use Prim.Native.Nat.{ℕ, ◌≤◌, ◌<◌}
use mathlib.Core.Path.{◌≡◌, sym, ap, ◌∙◌}
use mathlib.Core.Bool.{Bool, true, false}
use mathlib.Core.List.{List}
use native.Mathlib.Omega.{arith}
use lib.ListN.{length}
use lib.Dec.{leb}
use borrow.Author.Tests.{leb-true, leb-false, le-leb, lt-leb}
use Rattle.std.specs.Prelude.{Some, None, Result, Ok, Err}
use Rattle.layout.specs.Choice.{pick}
use Rattle.std.specs.Result.{IsErrAnd}
use Rattle.layout.specs.Records.{Read, field}
use Rattle.layout.specs.Answers.{number_of, says}
use Rattle.layout.specs.declared.refusal.Refusal.{Refusal}
use Rattle.layout.proofs.Cases.{by_cases}

-- ---- A field

-- a field whose value is given: it lies in the slot, and the value is the one that the definition names
pub record Got {A : Type 0} (s : List ℕ) (past : ℕ) (named given : A) : Type 0 where
  pub inside : past ≤ length s
  pub is : given ≡ named
  pub read : field s past named ≡ Read.value given

-- a field that is refused with a number: it does not lie in the slot
pub record Missed {A : Type 0} (s : List ℕ) (past : ℕ) (named : A) (number : ℕ) : Type 0 where
  pub outside : length s < past
  pub is : field s past named ≡ Read.refused number

value_same : {A : Type 0} (a b : A) → Read.value a ≡ Read.value b → b ≡ a
value_same a b e = cc

value_apart : {A : Type 0} (a : A) (n : ℕ) → Read.value a ≡ Read.refused n → ⊥
value_apart a n e = let z : ◌≡◌ {A = ℕ} 0 1 = cc in omega arith

refused_same : {A : Type 0} (m n : ℕ) → ◌≡◌ {A = Read A} (Read.refused m) (Read.refused n) → m ≡ n
refused_same m n e = cc

module _ {A : Type 0} (s : List ℕ) (past : ℕ) (a : A) where
  pub field-inside : past ≤ length s → field s past a ≡ Read.value a
  unfolding field
  field-inside h = rw (le-leb past (length s) h)

  pub field_past : length s < past → field s past a ≡ Read.refused 1
  unfolding field
  field_past h = rw (lt-leb past (length s) h)

  pub field_value : (b : A) → field s past a ≡ Read.value b → Got s past a b
  unfolding field
  field_value b e =
      by_cases (leb past (length s))
      (λ t. record { inside = leb-true past (length s) t; is = value_same a b (rw t at e); read = e })
      (λ t. absurd (value_apart b 1 (sym (rw t at e))))

  pub field_refused : (n : ℕ) → field s past a ≡ Read.refused n → Missed s past a n
  unfolding field
  field_refused n e =
      by_cases (leb past (length s)) (λ t. absurd (value_apart a n (rw t at e))) (λ t. record { outside = leb-false past (length s) t; is = e })

-- a field that ends no earlier than a refused one is refused with the same number
pub field_later : {A B : Type 0} {s : List ℕ} {past : ℕ} {a : A} {n : ℕ} → Missed s past a n → (later : ℕ) (b : B) → past ≤ later → Read.refused n ≡ field s later b
field_later {s = s} {past} {a} {n} m later b h =
    let one : n ≡ 1 = refused_same n 1 (sym m.is ∙ field_past s past a m.outside) in
    ap Read.refused one ∙ sym (field_past s later b (omega (arith, m.outside)))

-- ---- Its answer

module _ {A : Type 0} {s : List ℕ} {past : ℕ} {a : A} where
  -- a value was answered: it was read
  pub got : {x : A} → Read.value x ≡ field s past a → Got s past a x
  got {x} e = field_value s past a x (sym e)

  -- a refusal was answered: the field does not lie in the slot
  pub missed : {n : ℕ} → Read.refused n ≡ field s past a → Missed s past a n
  missed {n} e = field_refused s past a n (sym e)

-- a value, or none, by the test that a field goes by
module _ {A : Type 0} (s : List ℕ) (past : ℕ) (a : A) where
  pub field_some : (x : A) → Some x ≡ pick (leb past (length s)) (Some a) None → Read.value x ≡ field s past a
  unfolding field
  field_some x e = by_cases (leb past (length s)) (λ t. let h : Some x ≡ Some a = rw t at e in rw t (cc)) (λ f. absurd (let h : Some x ≡ None = rw f at e in cc))

  pub field_none : None ≡ pick (leb past (length s)) (Some a) None → Read.refused 1 ≡ field s past a
  unfolding field
  field_none e = by_cases (leb past (length s)) (λ t. absurd (let h : None ≡ Some a = rw t at e in cc)) (λ f. rw f)

-- ---- Handing on

-- what a `?` hands on is the error that was answered
pub passed_on : {A E : Type 0} (r : Result A E) (e : E) → IsErrAnd r (λ x. x ≡ e) → r ≡ Err e
passed_on (Ok a) e h = absurd h
passed_on (Err x) e h = ap Err h

-- a refused field is handed on where the fields up to a later place are read
pub handed_on : {A B : Type 0} {s : List ℕ} {past : ℕ} {a : A} (r : Result B Refusal) (e : Refusal) → IsErrAnd r (λ x. x ≡ e)
    → Missed s past a (number_of e) → (later : ℕ) (b : B) → past ≤ later → says r ≡ field s later b
handed_on r e h m later b l = rw (passed_on r e h) (field_later m later b l)

-- ---- The answer that a read comes to

module _ {A : Type 0} (s : List ℕ) (past : ℕ) (a : A) where
  pub answer_in_lem : {x : A} → past ≤ length s → x ≡ a → Read.value x ≡ field s past a
  answer_in_lem h e = ap Read.value e ∙ sym (field-inside s past a h)

  pub answer_out : length s < past → Read.refused 1 ≡ field s past a
  answer_out h = sym (field_past s past a h)

-- a test that came out so
pub passed : {t : Bool} {m n : ℕ} → t ≡ leb m n → t ≡ true → m ≤ n
passed {t} {m} {n} e f = leb-true m n (sym e ∙ f)

pub failed : {t : Bool} {m n : ℕ} → t ≡ leb m n → t ≡ false → n < m
failed {t} {m} {n} e f = leb-false m n (sym e ∙ f)
