use borrow.Author.Rules.{rules}
use Rattle.script_words.proofs.NumberLaws.{reading_none, no_word, low, high, over, more, all}
use Rattle.script_words.proofs.numbers.unsigned.Goals as goal

pub returns-then-is_empty-clause-value : goal.returns-then-is_empty-clause-value
returns-then-is_empty-clause-value c = no_word _ _ (search rules)

pub loop-byte-init : goal.loop-byte-init
loop-byte-init c = reading_none _ _ (search rules)

pub returns-in_default-clause-value : goal.returns-in_default-clause-value
returns-in_default-clause-value c = low c.loop-byte.invariant (search rules) (search rules)

pub returns-in_default-2-clause-value : goal.returns-in_default-2-clause-value
returns-in_default-2-clause-value c = high c.loop-byte.invariant (search rules) (search rules)

pub returns-in_err-checked_mul-clause-value : goal.returns-in_err-checked_mul-clause-value
returns-in_err-checked_mul-clause-value c = let e = over c.loop-byte.invariant (search rules) (search rules) (search rules) (search rules) in search (e, rules)

pub returns-in_err-value-clause-value : goal.returns-in_err-value-clause-value
returns-in_err-value-clause-value c = let e = over c.loop-byte.invariant (search rules) (search rules) (search rules) (search rules) in search (e, rules)

pub returns-then-value-max-clause-value : goal.returns-then-value-max-clause-value
returns-then-value-max-clause-value c = over c.loop-byte.invariant (search rules) (search rules) (search rules) (search rules)

pub loop-byte-preserved : goal.loop-byte-preserved
loop-byte-preserved c = let e = more c.loop-byte.invariant (search rules) (search rules) (search rules) (search rules) in search (e, rules)

pub returns-clause-value : goal.returns-clause-value
returns-clause-value c = all c.loop-byte.invariant (search rules)
