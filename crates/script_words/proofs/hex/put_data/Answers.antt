use Prim.Native.Nat.{◌+◌, ◌/◌, ◌<◌}
use mathlib.Core.Path.{sym}
use native.Mathlib.Omega.{arith}
use lib.ListN.{length}
use Rattle.layout.proofs.FieldLaws.{passed, failed}
use Rattle.layout.proofs.PutLaws.{putting_none, putting_more, putting_all, put_at_out}
use Rattle.script_words.proofs.DataLaws.{data_length_lem, data_at_lem, count-inside, count_outside}
use borrow.Author.Rules.{rules}
use Rattle.script_words.proofs.hex.put_data.Goals as goal

pub loop-j-init : goal.loop-j-init
loop-j-init c = putting_none (data_length_lem _) (passed c.inside.ensures c.if-inside.true)

pub loop-j-preserved : goal.loop-j-preserved
loop-j-preserved c = rw (
  c.digit.ensures.0,
  c.digit-in-loop-j.ensures.0,
  data_at_lem c.args.word.now c.loop-j.j (search rules),
) (putting_more c.loop-j.invariant (search rules))

pub returns-then-inside : goal.returns-then-inside
returns-then-inside c = record {
  out_after = putting_all c.loop-j.invariant (search rules);
  value = count-inside _ _ _ (passed c.inside.ensures c.if-inside.true);
}

pub returns : goal.returns
returns c =
    let s = c.args in
    let h : length s.out.now < s.at + length s.word.now / 2 = failed c.inside.ensures c.if-inside.false in
    record {
      out_after = sym (put_at_out _ _ _ (omega (arith, data_length_lem s.word.now)));
      value = count_outside _ _ _ h;
    }
