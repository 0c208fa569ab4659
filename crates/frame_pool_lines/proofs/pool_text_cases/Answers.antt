use mathlib.Core.Path.{refl}
use Rattle.layout.specs.Lists.{same, first_index}
use Rattle.layout.specs.Sizes.{saturated}
use Rattle.key_lines.specs.Lines.{column}
use Rattle.script_words.specs.Texts.{onto, parted, from_word, first_word, after_word, word_from, words_from, word_count}
use Rattle.script_words.specs.Numbers.{decimal_from, decimal_of, digits_alone, is_decimal}
use Rattle.frame_pool.specs.FramePool.{take_of, give_of, count_marked, highest_free, has_mark}
use Rattle.frame_pool_lines.specs.PoolLines.{decoder_said, frame_said, words_said, said_by}
use Rattle.frame_pool_lines.specs.PoolText.{answers_from}
use Rattle.frame_pool_lines.proofs.pool_text_cases.Goals as goal

pub returns : goal.returns
unfolding same first_index saturated column onto parted from_word first_word after_word word_from words_from word_count decimal_from decimal_of digits_alone is_decimal take_of
    give_of count_marked highest_free has_mark decoder_said frame_said words_said said_by answers_from
returns c = record { answers = refl; last = refl; more = refl }
