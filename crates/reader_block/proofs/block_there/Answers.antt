use mathlib.Core.Path.{sym, ap}
use Rattle.layout.specs.declared.Channel.{Channel}
use Rattle.layout.proofs.FieldLaws.{passed_on}
use Rattle.reader_block.specs.BlockAnswers.{block_answer}
use Rattle.reader_block.proofs.BlockLaws.{not_given, given, answer_given}
use Rattle.reader_block.proofs.block_there.Goals as goal

pub returns-in_err-found : goal.returns-in_err-found
returns-in_err-found c =
    let a = c.args in
    rw (passed_on _ _ c.from_residual.ensures.1)
    (sym (ap block_answer
    (not_given a.s.now a.r a.channel a.position c.requires.in_use c.requires.there _
    (sym (ap (λ (x : Channel). x.format) c.channel_of-c.ensures)) (sym c.in_err-found.ensures))))

pub returns : goal.returns
returns c =
    let a = c.args in
    answer_given a.s.now a.r a.channel a.position c.in_ok-found.found
    (given a.s.now a.r a.channel a.position c.requires.in_use c.requires.there _
    (sym (ap (λ (x : Channel). x.format) c.channel_of-c.ensures)) _ (sym c.in_ok-found.ensures))
    _ (sym c.channel_of-c.ensures)
