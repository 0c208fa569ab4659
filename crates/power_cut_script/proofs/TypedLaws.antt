-- What a script says are values of the calls' types.
use Prim.Native.Nat.{ℕ, zero, suc, ◌+◌, ◌-◌, ◌*◌, ◌<◌, ◌≤◌, min}
use mathlib.Core.Path.{◌≡◌, refl, ap}
use mathlib.Core.Bool.{Bool}
use mathlib.Core.List.{List, [], ◌∷◌, map}
use native.Mathlib.Omega.{arith}
use native.Mathlib.Nat.{le_of_suc-le-suc, not-suc-le-zero}
use lib.ListN.{length, take, get_or, replicate, length-take, length-replicate, get_or-replicate}
use lib.Dec.{eqb, ltb, leb}
use lib.IntN.{pos}
use Rattle.std.specs.Prelude.{Option, Some, None, IfSome}
use Rattle.std.specs.Option.{unwrap_or}
use mir.Syntax.{w16}
use mir.Val.{SFits}
use borrow.Author.Tests.{leb-true, ltb-true}
use Rattle.layout.specs.Choice.{◌and◌, ◌or◌}
use Rattle.layout.specs.Lists.{All, none, more, filter, first_index}
use Rattle.layout.specs.Types.{Bytes, Slice}
use Rattle.layout.proofs.Cases.{by_cases, and_true}
use Rattle.script_words.specs.Texts.{word_from, uncommented, parted, onto, lines_of, ends_line, starts_comment}
use Rattle.script_words.specs.Numbers.{decimal_from, decimal_of, below0, from0, under, small_of}
use Rattle.script_words.specs.Data.{digit_of, bytes_said}
use Rattle.script_words.proofs.DataLaws.{data_length_lem}
use Rattle.script_words.proofs.TextLaws.{word_short}
use Rattle.script_lines.specs.Lines.{is_kind, line_kind, number_at, signed_at, begin_line, cue_named, range_line, cue_said, push_line, coefficients_from, context_of, data_word, channel_block, side_said}
use Rattle.script_lines.proofs.LineLaws.{unwrap_small}
use Rattle.script_lines.specs.declared.kinds.Kind.{Kind}
use Rattle.script_lines.specs.declared.kinds.Kind.TheVariants as Kinds
use Rattle.script_groups.specs.Order.{said, sides_in, lent_by, opening_from}
use Rattle.writer.specs.Loading.{cue, push, finish}
use Rattle.writer.specs.Typed.{TypedCue, TypedBlock, TypedSide, TypedPush, Typed}
use Rattle.layout.proofs.ListLaws.{all_append}
use Rattle.cut_logged_calls.specs.LoggedCalls.{lent_of}
use Rattle.script_run.specs.Script.{push_with, push_by, call_by, calls_in, calls_of, begin_line_in}
use Rattle.layout.specs.Refusals.{key_limit}

-- ---- Numbers

decimal_most : (max v : ℕ) (bs : List ℕ) → v ≤ max → IfSome (decimal_from max v bs) (λ n. n ≤ max)
unfolding decimal_from
decimal_most max v [] h = h
decimal_most max v (b ∷ bs) h =
    by_cases (leb 48 b and leb b 57 and leb (10 * v + (b - 48)) max)
    (λ t. rw t (decimal_most max (10 * v + (b - 48)) bs (leb-true _ max (and_true (leb b 57) _ (and_true (leb 48 b) _ t).1).1)))
    (λ t. rw t tt)

word_most : (max : ℕ) (w : List ℕ) → IfSome (decimal_of max w) (λ n. n ≤ max)
unfolding decimal_of
word_most max [] = tt
word_most max (b ∷ bs) = decimal_most max 0 (b ∷ bs) (omega arith)

at_most : (l : List ℕ) (i max : ℕ) → number_at l i max ≤ max
unfolding number_at
at_most l i max = unwrap_small (decimal_of max (word_from l i)) (word_most max (word_from l i))

under-fits : (n : ℕ) → n ≤ 32768 → SFits w16 (under n)
under-fits zero h = record { sfits = omega arith }
under-fits (suc n) h = record { sfits = omega arith }

below-fits : (n : Option ℕ) → IfSome n (λ k. k ≤ 32768) → SFits w16 (unwrap_or (below0 n) (pos 0))
below-fits None h = record { sfits = omega arith }
below-fits (Some n) h = under-fits n h

from-fits : (n : Option ℕ) → IfSome n (λ k. k ≤ 32767) → SFits w16 (unwrap_or (from0 n) (pos 0))
from-fits None h = record { sfits = omega arith }
from-fits (Some n) h = record { sfits = omega arith }

small-fits : (w : List ℕ) → SFits w16 (unwrap_or (small_of w) (pos 0))
unfolding small_of
small-fits [] = record { sfits = omega arith }
small-fits (b ∷ bs) =
    by_cases (eqb b 45) (λ t. rw t (below-fits (decimal_of 32768 bs) (word_most 32768 bs)))
    (λ t. rw t (from-fits (decimal_of 32767 (b ∷ bs)) (word_most 32767 (b ∷ bs))))

at-fits : (l : List ℕ) (i : ℕ) → SFits w16 (signed_at l i)
unfolding signed_at
at-fits l i = small-fits (word_from l i)

-- ---- Channels

each_fits : (l : List ℕ) (i n : ℕ) → (length (coefficients_from l i n) ≡ n) × All (SFits w16) (coefficients_from l i n)
unfolding coefficients_from
each_fits l i zero = (refl, none)
each_fits l i (suc n) = let h = each_fits l (suc i) n in (ap suc h.0, more (at-fits l i) h.1)

typed_block : (l : List ℕ) → TypedBlock (channel_block l)
unfolding channel_block context_of
typed_block l =
    record {
      rate = omega (arith, at_most l 1 4294967295);
      addresses = omega (arith, at_most l 2 18446744073709551615);
      coefficients = record { sixteen = (each_fits l 7 16).0; each = (each_fits l 7 16).1 };
      gain = omega (arith, at_most l 3 65535);
      context = record { scale = omega (arith, at_most l 4 65535); last = at-fits l 5; oldest = at-fits l 6 };
    }

digit_small : (b : ℕ) → digit_of b < 16
unfolding digit_of
digit_small b =
    by_cases (ltb b 48) (λ t. rw t (omega arith))
    (λ t₁.
    by_cases (ltb b 58) (λ t. rw (t₁, t) (omega (arith, ltb-true b 58 t)))
    (λ t₂.
    by_cases (ltb b 65) (λ t. rw (t₁, t₂, t) (omega arith))
    (λ t₃.
    by_cases (ltb b 71) (λ t. rw (t₁, t₂, t₃, t) (omega (arith, ltb-true b 71 t)))
    (λ t₄.
    by_cases (ltb b 97) (λ t. rw (t₁, t₂, t₃, t₄, t) (omega arith))
    (λ t₅.
    by_cases (ltb b 103) (λ t. rw (t₁, t₂, t₃, t₄, t₅, t) (omega (arith, ltb-true b 103 t)))
    (λ t. rw (t₁, t₂, t₃, t₄, t₅, t) (omega arith)))))))

data_bytes : (w : List ℕ) → Bytes (bytes_said w)
unfolding bytes_said
data_bytes [] i h = absurd (not-suc-le-zero h)
data_bytes (a ∷ []) i h = absurd (not-suc-le-zero h)
data_bytes (a ∷ b ∷ bs) zero h = omega (arith, digit_small a, digit_small b)
data_bytes (a ∷ b ∷ bs) (suc i) h = data_bytes bs i (le_of_suc-le-suc h)

-- ---- Lines are no longer than the text

abbrev Short : ℕ → List ℕ → Type 0
Short n l = length l ≤ n

longer : {n m : ℕ} {ls : List (List ℕ)} → n ≤ m → All (Short n) ls → All (Short m) ls
longer h none = none
longer h (more {x} q a) = more {x = x} (omega arith) (longer h a)

onto_short : {n : ℕ} (b : ℕ) {ls : List (List ℕ)} → All (Short n) ls → All (Short (suc n)) (onto b ls)
unfolding onto
onto_short b none = more {x = b ∷ []} (omega arith) none
onto_short b (more {x} q a) = more {x = b ∷ x} (omega arith) (longer (omega arith) a)

parted_short : (s : List ℕ) → All (Short (length s)) (parted s)
unfolding parted
parted_short [] = none
parted_short (b ∷ bs) =
    by_cases (ends_line b) (λ t. rw t (more {x = []} (omega arith) (longer (omega arith) (parted_short bs)))) (λ t. rw t (onto_short b (parted_short bs)))

uncommented_short : {n : ℕ} {ls : List (List ℕ)} → All (Short n) ls → All (Short n) (map uncommented ls)
unfolding uncommented
uncommented_short none = none
uncommented_short (more {x} q a) = more {x = take (first_index starts_comment x) x} (omega (arith, length-take (first_index starts_comment x) x)) (uncommented_short a)

lines_short : (s : List ℕ) → All (Short (length s)) (lines_of s)
unfolding lines_of
lines_short s = uncommented_short (parted_short s)

typed_side : {n : ℕ} (l : List ℕ) → n < 9223372036854775808 → Short n l → TypedSide (side_said l)
unfolding side_said
typed_side l big h =
    record {
      block = typed_block l;
      bytes = record { bytes = data_bytes (data_word l); long = omega (arith, data_length_lem (data_word l), word_short l 23) };
    }

-- ---- The lines of a call

module _ {Q : List ℕ → Type 0} where
  all_filter : (p : List ℕ → Bool) {ls : List (List ℕ)} → All Q ls → All Q (filter p ls)
  unfolding filter
  all_filter p none = none
  all_filter p (more {x} q a) = by_cases (p x) (λ t. rw t (more q (all_filter p a))) (λ t. rw t (all_filter p a))

  all_take : (n : ℕ) {ls : List (List ℕ)} → All Q ls → All Q (take n ls)
  all_take zero a = none
  all_take (suc n) none = none
  all_take (suc n) (more q a) = more q (all_take n a)

  all-at : (i : ℕ) {ls : List (List ℕ)} → Q [] → All Q ls → Q (get_or ls i [])
  all-at i e none = e
  all-at zero e (more q a) = q
  all-at (suc i) e (more q a) = all-at i e a

  all_rest : (n : ℕ) {ls : List (List ℕ)} → All Q ls → All Q (opening_from n ls).rest
  unfolding opening_from
  all_rest n none = none
  all_rest n (more {x} q a) =
      by_cases (is_kind (line_kind x) Kinds.Begin) (λ t. rw t a) (λ t. rw t (all_rest (lent_by (line_kind x) x n) a))

pub zeros_slice : (n : ℕ) → Slice (lent_of n)
zeros_slice n =
    let m = min n key_limit in
    let long : length (replicate {A = ℕ} m 0) ≡ m = length-replicate {A = ℕ} m 0 in
    record {
      bytes = λ i h. rw (get_or-replicate {A = ℕ} m i 0 0 (rw long at h)) (omega arith);
      long = rw long (omega arith);
    }

typed_push : {n : ℕ} (l : List ℕ) (ls : List (List ℕ)) → n < 9223372036854775808 → All (Short n) ls → TypedPush (push_by l ls)
unfolding push_by push_with sides_in push_line
typed_push l ls big a =
    let sides = all_take (push_line l).channels (all_filter said a) in
    record {
      channels = omega (arith, at_most l 1 18446744073709551615);
      left = typed_side _ big (all-at 0 (omega arith) sides);
      right = typed_side _ big (all-at 1 (omega arith) sides);
    }

typed_cue : (l : List ℕ) (k : Kind) → TypedCue (cue_said l k)
unfolding cue_said range_line cue_named
typed_cue l k =
    let start = at_most l 1 18446744073709551615 in
    by_cases (is_kind k Kinds.Range)
    (λ t. rw t (record { start = omega arith; range = omega (arith, at_most l 2 18446744073709551615); name = omega (arith, at_most l 3 4294967295) }))
    (λ t.
    by_cases (is_kind k Kinds.Loop)
    (λ u. rw (t, u) (record { start = omega arith; range = omega arith; name = omega (arith, at_most l 2 4294967295) }))
    (λ u. rw (t, u) (record { start = omega arith; range = omega arith; name = omega (arith, at_most l 2 4294967295) })))

typed_call : {m : ℕ} (k : Kind) (l : List ℕ) (n : ℕ) (ls : List (List ℕ)) → m < 9223372036854775808 → All (Short m) ls → All Typed (call_by k l n ls)
unfolding call_by
typed_call k l n ls big a =
    by_cases (is_kind k Kinds.Push) (λ t. rw t (more {x = push (push_by l ls) (lent_of n)} (typed_push l ls big a, zeros_slice n) none))
    (λ t₁.
    by_cases (is_kind k Kinds.Finish) (λ t. rw (t₁, t) (more {x = finish (lent_of n)} (zeros_slice n) none))
    (λ t₂.
    by_cases (is_kind k Kinds.Point or is_kind k Kinds.Loop or is_kind k Kinds.Range) (λ t. rw (t₁, t₂, t) (more {x = cue (cue_said l k)} (typed_cue l k) none)) (λ t. rw (t₁, t₂, t) none)))

typed_calls : {m : ℕ} (n : ℕ) {ls : List (List ℕ)} → m < 9223372036854775808 → All (Short m) ls → All Typed (calls_in n ls)
unfolding calls_in
typed_calls n big none = none
typed_calls n big (more {x} {xs} q a) = all_append (typed_call (line_kind x) x n xs big a) (typed_calls (lent_by (line_kind x) x n) big a)

pub script_typed : (s : List ℕ) → Slice s → All Typed (calls_of s)
unfolding calls_of
script_typed s h = typed_calls (begin_line_in s).lent h.long (all_rest key_limit (lines_short s))

pub channels_typed : (l : List ℕ) → (begin_line l).channels < 18446744073709551616
unfolding begin_line
channels_typed l = omega (arith, at_most l 1 18446744073709551615)
