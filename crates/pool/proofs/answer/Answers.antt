use mathlib.Core.Path.{sym}
use lib.Seq.{length-take-le}
use borrow.Author.Rules.{rules}
use Rattle.pool.proofs.PortionLaws.{answers-inside, answers_taken}
use Rattle.pool.proofs.answer.Goals as goal

pub slice_bounds-out-end : goal.slice_bounds-out-end
slice_bounds-out-end g c =
    let z = c.args in
    let a = c.answer_lines-answered.ensures in
    answers-inside z.from z.text.now _ (search rules) (search rules) a.value a.out_after

pub slice_bounds-write_answers-end : goal.slice_bounds-write_answers-end
slice_bounds-write_answers-end g c =
    let z = c.args in
    let a = c.answer_lines-answered.ensures in
    sym (length-take-le _ _ (answers-inside z.from z.text.now _ (search rules) (search rules) a.value a.out_after))

pub write_answers-requires : goal.write_answers-requires
write_answers-requires g c =
    let z = c.args in
    let a = c.answer_lines-answered.ensures in
    answers_taken z.from z.text.now _ (search rules) (search rules) a.value a.out_after
