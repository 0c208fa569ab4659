-- What holds of the record of every accepted opening.
use Rattle.std.proofs.Common.{Option}
use Prim.Native.Nat.{ℕ, ◌+◌, ◌-◌, ◌≤◌, ◌<◌}
use mathlib.Core.Path.{◌≡◌, sym, ap, ◌∙◌}
use mathlib.Core.Bool.{Bool, true, false}
use mathlib.Core.List.{List, []}
use native.Mathlib.Omega.{arith}
use lib.ListN.{length, drop, get_or, replicate, get_or-append}
use lib.Seq.{take-append_seam}
use Rattle.layout.specs.Choice.{pick}
use Rattle.layout.specs.Lists.{none}
use Rattle.layout.specs.Records.{first_block_offset}
use Rattle.layout.specs.Refusals.{wrong_count, block_limit}
use Rattle.layout.specs.declared.Channel.{Channel}
use Rattle.layout.proofs.ListLaws.{all_drop, all-at}
use Rattle.reader.specs.declared.HpsReader.{HpsReader}
use Rattle.reader.specs.OpeningAndReading.{Walked, walk_from, made, offset_in, offsets_from, data_remaining}
use Rattle.reader.specs.CuesReadBack.{looped, first_cursor}
use Rattle.reader.proofs.OpenedLaws.{opened_parts_lem, one_or_two}
use Rattle.reader_laws.specs.ReaderLaws.{cue_count, Accepted, OpeningLaws}
use Rattle.reader_laws.proofs.ChainLaws.{Found, walk_found}
use Rattle.reader_laws.proofs.CallLaws.{lengths_given, Listed, listed, nth_taken, nth_ended}

at_most_one : (d : Bool) → pick d 1 0 ≤ 1
at_most_one true = omega arith
at_most_one false = omega arith

module _ (s : List ℕ) (rate count : ℕ) (l x : Channel) (os : List ℕ) (start : Option ℕ) (c : wrong_count count ≡ false) (w : walk_from block_limit s [] first_block_offset ≡ Walked.walked os start) where
  abbrev r : HpsReader
  r = made rate count l x os start

  found : Found s block_limit [] first_block_offset os start
  found = walk_found block_limit s [] first_block_offset os start none (λ i j a b. absurd (omega arith)) (λ i a. absurd (omega arith)) w

  -- the record's offsets are those walked
  offset_is : (i : ℕ) → i < length os → offset_in r i ≡ get_or os i 0
  unfolding made
  offset_is i h = get_or-append os (replicate (block_limit - length os) 0) 0 i h

  offsets_are : (i : ℕ) → offsets_from r i ≡ drop i os
  unfolding made
  offsets_are i = ap (drop i) (take-append_seam os (replicate (block_limit - length os) 0))

  end_of : Listed s r (first_cursor r) (cue_count s r + pick (looped r.loop_start) 1 0)
  unfolding cue_count
  end_of = rw (offsets_are 0) (listed s r os 0 0 0 (looped r.loop_start) (offsets_are 0) found.read)

  accepted-made : Accepted s r
  unfolding made data_remaining
  accepted-made =
      record {
        channels = one_or_two count c;
        some = found.some;
        few = found.few;
        first = offset_is 0 found.some ∙ found.first;
        different = λ i j a b e. found.different i j a b (sym (offset_is i (omega arith)) ∙ e ∙ offset_is j b);
        loop = found.loop;
        header = λ i h. rw (offset_is i h) (all-at 0 os i found.read h);
        remaining = λ i. rw (offsets_are i) (lengths_given s (drop i os) (all_drop i os found.read));
        cue = nth_taken s r end_of.yields end_of.taken;
        end = (length end_of.answers, omega (arith, end_of.few, at_most_one (looped start)), nth_ended s r end_of.yields);
      }

pub accepted : OpeningLaws
unfolding OpeningLaws
accepted s r e =
    let p = opened_parts_lem s r e in
    rw (← p.is) (accepted-made s p.rate p.count p.left p.right p.offsets p.start p.right_count p.walk)
