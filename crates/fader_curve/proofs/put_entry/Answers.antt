use mathlib.Core.Path.{sym}
use Rattle.fader_curve.proofs.TextLaws.{inner_size, eighth_size, inner_put, eighth_put}
use Rattle.fader_curve.proofs.put_entry.Goals as goal

pub returns-then-k-eq7 : goal.returns-then-k-eq7
returns-then-k-eq7 c =
    record {
      value = sym (eighth_size _ c.if-k-eq7.true);
      text_after = eighth_put _ _ _ (rw c.entry.ensures at c.put_column.ensures) c.if-k-eq7.true c.requires.1 c.put_u8.ensures;
    }

pub returns : goal.returns
returns c =
    record {
      value = sym (inner_size _ c.if-k-eq7.false);
      text_after = inner_put _ _ _ (rw c.entry.ensures at c.put_column.ensures) c.if-k-eq7.false;
    }
