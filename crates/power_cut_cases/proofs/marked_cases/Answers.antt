use mathlib.Core.List.{flat_map}
use mathlib.Core.Path.{refl}
use Rattle.layout.specs.Lists.{filter, any, sum, same, first_index}
use Rattle.layout.specs.Records.{be16, u16_at, be32, u32_at, be_z16, i16s, field, padded_size, context_bytes, context_at, channel_bytes, channel_at, read_channel, no_channel}
use Rattle.layout.specs.Records.{read_magic, file_header_bytes, header_bytes, header_at, read_header, cue_bytes, cue_at, fillers, padded, size_of, block_header}
use Rattle.layout.specs.Records.{block_bytes, adpcm_bytes, adpcm_samples}
use Rattle.layout.specs.Refusals.{first_due}
use Rattle.reader.specs.OpeningAndReading.{walk_from, made, opening, data_start, data_part, block_read, lengths_at, data_remaining}
use Rattle.reader.specs.CuesReadBack.{cue_from, cue_step}
use Rattle.writer.specs.WritesAndCuttingRule.{handed, writes_in}
use Rattle.writer.specs.Loading.{lex_lt, before, has, insert, points, points_of, bytes_of, same_z, data_size, state_due, no_addresses, blocks_due, rate_due, length_due, data_due, coefficients_due}
use Rattle.writer.specs.Loading.{early_due, room_due, push_order, filled, second, header_for}
use Rattle.writer.specs.Calls.{writes, begin_of, after_cue, cue_of, taken_of, end_for, loop_due, loop_after, next_for, after_block, push_bytes, push_of, header_of, after_finish, finish_of}
use Rattle.writer.specs.Push.{below, count_taken, cues_taken, loops_here, advanced}
use Rattle.writer.specs.Estimate.{lengths_due, estimate_refusal, estimated, estimate_of}
use Rattle.power_cut.specs.LoadingBook.{base_of, end_of_blocks, last_pushed, takes, enters, book_answers, book_run, loop_block, opening_of, block_of, remaining_of, named, cues_from, cues_of}
use Rattle.power_cut.specs.FinishedFile.{next_of, blocks_bytes, file_header, file_bytes}
use Rattle.power_cut.specs.PowerCut.{answers_of, writes_of, nth_cue}
use Rattle.power_cut_cases.specs.MarkedForTheTable.{cues, points_to, carry, table, MarkedCases}
use Rattle.power_cut_cases.proofs.marked_cases.Goals as goal

-- The table computes.

marked : MarkedCases
unfolding filter any sum flat_map same first_index be16 u16_at be32 u32_at be_z16 i16s field padded_size context_bytes context_at channel_bytes channel_at read_channel no_channel read_magic file_header_bytes
    header_bytes header_at read_header cue_bytes cue_at fillers padded size_of block_header block_bytes adpcm_bytes adpcm_samples first_due walk_from made opening data_start data_part block_read lengths_at
    data_remaining cue_from cue_step handed writes_in lex_lt before has insert points points_of bytes_of same_z data_size state_due no_addresses blocks_due rate_due length_due data_due coefficients_due
    early_due room_due push_order
    filled second header_for writes begin_of after_cue cue_of below count_taken cues_taken taken_of end_for loops_here loop_due loop_after next_for advanced after_block push_bytes push_of header_of
    after_finish finish_of lengths_due estimate_refusal estimated estimate_of base_of end_of_blocks last_pushed takes enters book_answers book_run loop_block opening_of block_of remaining_of named cues_from
    cues_of next_of blocks_bytes file_header file_bytes answers_of writes_of nth_cue cues points_to carry table MarkedCases
marked = refl

pub returns : goal.returns
returns c = marked
