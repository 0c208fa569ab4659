use Rattle.cut_answer.proofs.AnswerLaws.{long_script, wrong_line_lem, well_formed}
use Rattle.cut_answer.proofs.answer.Goals as goal

pub returns-then-text-gt-SCRIPT_LIMIT : goal.returns-then-text-gt-SCRIPT_LIMIT
returns-then-text-gt-SCRIPT_LIMIT g c = long_script _ _ _ c.if-text-gt-SCRIPT_LIMIT.true

pub returns-in-Some : goal.returns-in-Some
returns-in-Some g c = wrong_line_lem _ _ _ c.if-text-gt-SCRIPT_LIMIT.false c.in-Some.ensures.value c.in-Some.ensures.some

pub returns : goal.returns
returns g c = well_formed _ _ _ c.if-text-gt-SCRIPT_LIMIT.false c.in_default.ensures.value c.answer_script.ensures
