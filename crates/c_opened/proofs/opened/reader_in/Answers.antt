use mathlib.Core.Path.{sym, refl, ◌∙◌}
use Rattle.c_opened.proofs.KeptReads.{too_few, many-channels, many_blocks, no_left, no_right, part-made, lesser_is}
use borrow.Author.Rules.{rules}
use Rattle.c_opened.proofs.opened.reader_in.Goals as goal
use Rattle.c_opened.proofs.opened.reader_in.Goals.{then-count-gt2-via-then-count-gt2, then-count-gt2-via-else-count-gt2+then-blocks-gt-BLOCK_LIMIT}

pub returns-then-kept-lt-OPENED_SIZE-clause-value : goal.returns-then-kept-lt-OPENED_SIZE-clause-value
returns-then-kept-lt-OPENED_SIZE-clause-value c = c.no_reader.ensures ∙ search (too_few, rules)

pub returns-then-count-gt2-clause-value : goal.returns-then-count-gt2-clause-value
returns-then-count-gt2-clause-value c =
    let h = c.if-kept-lt-OPENED_SIZE.false in
    let e = c.word-count.ensures in
    c.no_reader-then-count-gt2.ensures
    ∙ (elim c.then-count-gt2.branch [
      | then-count-gt2-via-then-count-gt2 w ↦ many-channels _ _ _ h e w.if-count-gt2.true
      | then-count-gt2-via-else-count-gt2+then-blocks-gt-BLOCK_LIMIT w ↦
          many_blocks _ _ _ h e w.if-count-gt2.false c.word-blocks.ensures w.if-blocks-gt-BLOCK_LIMIT.true
    ])

pub returns-in_default-clause-value : goal.returns-in_default-clause-value
returns-in_default-clause-value c =
    c.no_reader-in_default.ensures
    ∙ no_left _ _ _ c.if-kept-lt-OPENED_SIZE.false c.word-count.ensures c.if-count-gt2.false c.word-blocks.ensures c.if-blocks-gt-BLOCK_LIMIT.false (sym c.in_default.ensures)

pub returns-in_default-read_channel-clause-value : goal.returns-in_default-read_channel-clause-value
returns-in_default-read_channel-clause-value c =
    c.no_reader-in_default-read_channel.ensures
    ∙ no_right _ _ _ c.if-kept-lt-OPENED_SIZE.false c.word-count.ensures c.if-count-gt2.false c.word-blocks.ensures c.if-blocks-gt-BLOCK_LIMIT.false
    (sym c.in-Ok.ensures) (sym c.in_default-read_channel.ensures)

pub returns-clause-value : goal.returns-clause-value
returns-clause-value c =
    part-made _ _ _ c.if-kept-lt-OPENED_SIZE.false c.word-count.ensures c.if-count-gt2.false
    c.word-blocks.ensures c.if-blocks-gt-BLOCK_LIMIT.false (sym c.in-Ok.ensures) (sym c.in-Ok-read_channel.ensures) c.word-2.ensures refl refl refl
    (c.min.ensures ∙ lesser_is _ _) c.offsets_in-offsets.ensures c.word.ensures c.loop_of-loop_start.ensures
