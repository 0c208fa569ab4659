use mathlib.Core.Path.{refl, sym, ap}
use native.Mathlib.Omega.{arith}
use Rattle.layout.specs.declared.Channel.{Channel}
use Rattle.reader.proofs.PartsLaws.{no_channel_lem, past_last}
use Rattle.reader_block.proofs.BlockLaws.{Given, not_given, given, data_given, no_part}
use Rattle.reader_block.proofs.block_data.Goals as goal
use Rattle.reader_block.proofs.block_data.Goals.{In-Ok}

pub returns-then-r-channel : goal.returns-then-r-channel
returns-then-r-channel c =
    let a = c.args in
    no_part a.s.ref_ptr (no_channel_lem a.s.now a.r a.channel a.position c.if-r-channel.true) refl refl

pub returns-then-r-position : goal.returns-then-r-position
returns-then-r-position c =
    let a = c.args in
    no_part a.s.ref_ptr (past_last a.s.now a.r a.channel a.position c.if-r-channel.false c.if-r-position.true) refl refl

pub returns-in_default : goal.returns-in_default
returns-in_default c =
    let a = c.args in
    no_part a.s.ref_ptr
    (not_given a.s.now a.r a.channel a.position c.if-r-channel.false c.if-r-position.false _
    (sym (ap (λ (x : Channel). x.format) c.channel_of-side.ensures))
    (sym c.in_default.ensures))
    refl refl

-- what is known of the data that was found

at-found : (c : In-Ok) → (let a = c.args in
    Given a.s.now a.r a.channel a.position c.in-Ok.found)
at-found c =
    let a = c.args in
    given a.s.now a.r a.channel a.position c.if-r-channel.false c.if-r-position.false _
    (sym (ap (λ (x : Channel). x.format) c.channel_of-side.ensures)) _ (sym c.in-Ok.ensures)

pub slice_bounds-result-count : goal.slice_bounds-result-count
slice_bounds-result-count c = omega (arith, (at-found (goal.at.slice_bounds-result-count c).In-Ok).order)

pub slice_bounds-result-start : goal.slice_bounds-result-start
slice_bounds-result-start c = omega (arith, (at-found (goal.at.slice_bounds-result-start c).In-Ok).order)

pub slice_bounds-result-end-2 : goal.slice_bounds-result-end-2
slice_bounds-result-end-2 c = omega (arith, (at-found (goal.at.slice_bounds-result-end-2 c).In-Ok).inside)

pub returns : goal.returns
returns c =
    let a = c.args in
    data_given a.s.now a.r a.channel a.position c.in-Ok.found (at-found (goal.at.returns c).In-Ok) a.s.ref_ptr
