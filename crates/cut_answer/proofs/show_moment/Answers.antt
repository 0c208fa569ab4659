use Rattle.cut_answer.proofs.RunLaws.{slot_log}
use Rattle.cut_answer.proofs.AnswerLaws.{past_last, not_past}
use Rattle.cut_answer.proofs.show_moment.Goals as goal

pub returns-then-moment-last : goal.returns-then-moment-last
returns-then-moment-last g c = past_last _ _ _ c.requires.listed.0 c.requires.listed.1 c.if-moment-last.true

pub print_slot-requires : goal.print_slot-requires
print_slot-requires g c =
    slot_log c.args.j c.args.logged.now _ c.requires.slot_value c.requires.listed.1 c.slot_at.ensures

pub returns : goal.returns
returns g c =
    not_past _ _ _ c.requires.listed.0 c.requires.listed.1 c.if-moment-last.false
