-- Each group of push's refusals has its numbers.
use Prim.Native.Nat.{ℕ}
use mathlib.Core.Bool.{Bool}
use Rattle.writer.specs.declared.ChannelBlock.{ChannelBlock}
use Rattle.writer.specs.Loading.{state_due, blocks_due, rate_due, length_due, data_due, coefficients_due, early_due}
use Rattle.writer_push_refusal.proofs.DecideLaws.{Numbered, none, more}

pub state_numbered : (last : Bool) (own ch : ℕ) → Numbered (state_due last own ch)
unfolding state_due
state_numbered last own ch = more (more none)

pub blocks_numbered : (n : ℕ) → Numbered (blocks_due n)
unfolding blocks_due
blocks_numbered n = more none

pub rate_numbered : (n f ch l r : ℕ) → Numbered (rate_due n f ch l r)
unfolding rate_due
rate_numbered n f ch l r = more (more (more none))

pub length_numbered : (ch l r : ℕ) → Numbered (length_due ch l r)
unfolding length_due
length_numbered ch l r = more (more (more none))

pub data_numbered : (ch l lb r rb : ℕ) → Numbered (data_due ch l lb r rb)
unfolding data_due
data_numbered ch l lb r rb = more none

pub early_numbered : (n : ℕ) (f g : ChannelBlock) (ch : ℕ) (l r : ChannelBlock) (lb rb : ℕ) → Numbered (early_due n f g ch l r lb rb)
unfolding early_due blocks_due rate_due length_due data_due coefficients_due
early_numbered n f g ch l r lb rb = more (more (more (more (more (more (more (more (more none))))))))
