use Rattle.std.proofs.Common.{◌≡◌, length, refl, rules}
use Rattle.writer.specs.Calls.{header_of, after_finish}
use Rattle.writer_finish.proofs.FinishLaws.{finish_refused, sum_fits, room, finish_accepted}
use Rattle.layout.specs.Records.{file_header_size}
use Rattle.writer_finish.proofs.finish.Goals as goal
use Rattle.writer_finish.proofs.finish.Goals.{After-header-bytes}

pub returns-in-Err-clause-value : goal.returns-in-Err-clause-value
returns-in-Err-clause-value c = rw (finish_refused c.args.w c.args.lent.now c.requires c.in-Err.refusal c.in-Err.ensures)

pub returns-in-Err-clause-lent_after : goal.returns-in-Err-clause-lent_after
returns-in-Err-clause-lent_after c = rw (finish_refused c.args.w c.args.lent.now c.requires c.in-Err.refusal c.in-Err.ensures)

pub header-bytes-requires : goal.header-bytes-requires
header-bytes-requires c = sum_fits c.args.w c.args.lent.now c.requires c.in_default.ensures

size : (c : After-header-bytes) → length c.header-bytes.result ≡ file_header_size
size c = search rules

pub hand_out-requires : goal.hand_out-requires
hand_out-requires c =
    (size (goal.at.hand_out-requires c).After-header-bytes, room c.args.w c.args.lent.now c.requires c.in_default.ensures)

pub returns : goal.returns
unfolding header_of after_finish
returns c =
    let all = finish_accepted c.args.w c.args.lent.now c.requires c.in_default.ensures c.header-bytes.result _ _ c.header-bytes.ensures (size (goal.at.returns c).After-header-bytes)
    c.hand_out.ensures refl in
    record {
      value = all.0;
      lent_after = all.1.0;
      good = all.1.1;
    }
