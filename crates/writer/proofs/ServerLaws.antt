-- What a call returns tells the server its writes: the places of its reply, with the lent buffer afterwards, are the writes of the definitions. The
-- premises are what the contracts ensure of the result and the buffer.
use mathlib.Core.Path.{◌≡◌, ap}
use mathlib.Core.List.{List, []}
use Prim.Native.Nat.{ℕ}
use lib.Dec.{eqb}
use Rattle.layout.proofs.Cases.{by_cases}
use Rattle.writer.specs.Loading.{cue_refusal}
use Rattle.writer.specs.WritesAndCuttingRule.{writes_in}
use Rattle.writer.specs.declared.Cue.{Cue}
use Rattle.writer.specs.declared.HpsWriter.{HpsWriter}
use Rattle.writer.specs.declared.Called.{Called}
use Rattle.writer.specs.Calls.{places_in, Outcome, Replied, reply_says, writes, called, called_says, held, cue_of}

pub call_writes : (o : Outcome) (q : Called) (l : List ℕ) → called_says q ≡ called o → l ≡ o.lent → writes_in (places_in (reply_says q.answer)) l ≡ writes o
unfolding writes
call_writes o q l eq el = rw (ap (λ (x : Replied). x.reply) eq, el)

-- Cue hands out nothing.
pub cue-writes : (w : HpsWriter) (c : Cue) → writes (cue_of w c) ≡ []
unfolding writes writes_in cue_of
cue-writes w c = by_cases (eqb (cue_refusal w.stream.blocks (held w) c) 0) (λ q. rw q) (λ q. rw q)
