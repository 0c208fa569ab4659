-- A channel's samples block by block: from a decoder on, after a call that gave samples, and after one that gave none.
use Prim.Native.Nat.{ℕ, zero, suc, ◌+◌, ◌-◌, ◌*◌, ◌≤◌, ◌<◌}
use mathlib.Core.Path.{◌≡◌, refl, sym, ap, ◌∙◌}
use mathlib.Core.Bool.{false}
use mathlib.Core.List.{List, [], ◌++◌}
use native.Mathlib.Omega.{arith}
use lib.ListN.{length, take, drop, length-append, length-drop}
use lib.Seq.{take_at, drop-drop, drop-append_seam}
use lib.Dec.{ltb}
use lib.IntN.{ℤ}
use borrow.Author.Tests.{ltb-false}
use Rattle.layout.specs.Refusals.{slot_limit}
use Rattle.layout.specs.Records.{adpcm_bytes}
use Rattle.layout.proofs.Cases.{by_cases, apart}
use Rattle.reader.specs.OpeningAndReading.{Opened, opening, Readable}
use Rattle.reader.specs.declared.HpsReader.{HpsReader}
use Rattle.adpcm_block.specs.Block.{Decoded, filled_with}
use Rattle.adpcm_block.proofs.CountLaws.{samples_most}
use Rattle.reader_decode.specs.Decoding.{DecodeAnswer, decoder_at, new_decoder, decoding, decode_answer, decoder_after, samples_after, heard_in, decoder_on, heard}
use Rattle.reader_decode.specs.declared.Decoder.{Decoder}
use Rattle.reader_decode.proofs.ReadLaws.{Longer, DecodingSays, decoding_says, decoding-room}
use Rattle.decode_print.specs.declared.Hearing.{Hearing}
use Rattle.std.specs.Prelude.{Some, Result, Ok, Err}
use Rattle.layout.specs.Records.{Read}
use Rattle.layout.specs.Answers.{number_of}
use Rattle.layout.specs.declared.refusal.Refusal.{Refusal}
use Rattle.decode_print.specs.Hearing.{most_samples, heard_from, end_from, samples_on, channel_samples, end_on, channel_end, RoomForEach, HeardOf, Before, ended_says, is_samples, is_short, HeardHere}

-- ---- The answer of a call

-- samples that were given
pub record SamplesGiven (a : DecodeAnswer) (n : ℕ) : Type 0 where
  pub decoded : Decoded
  pub position : ℕ
  pub is : a ≡ DecodeAnswer.gave decoded position
  pub count : n ≡ length decoded.samples

pub samples_given : (a : DecodeAnswer) {n : ℕ} → Read.value (Some n) ≡ decode_answer a → SamplesGiven a n
samples_given (DecodeAnswer.refused k) e = absurd (cc)
samples_given DecodeAnswer.ended e = absurd (cc)
samples_given (DecodeAnswer.gave d j) {n} e = record { decoded = d; position = j; is = refl; count = let h : n ≡ length d.samples = cc in h }

-- an end is no answer with samples
quiet_end : (e : Result (Unit {0}) Refusal) → is_samples (ended_says e) ≡ false
quiet_end (Ok u) = refl
quiet_end (Err r) = refl

quiet_none : (a : DecodeAnswer) → is_samples (decode_answer a) ≡ false → heard_in a ≡ []
quiet_none (DecodeAnswer.refused k) e = refl
quiet_none DecodeAnswer.ended e = refl
quiet_none (DecodeAnswer.gave d j) e = apart e

quiet_stays : (a : DecodeAnswer) (d : Decoder) → is_samples (decode_answer a) ≡ false → decoder_after d a ≡ d
quiet_stays (DecodeAnswer.refused k) d e = refl
quiet_stays DecodeAnswer.ended d e = refl
quiet_stays (DecodeAnswer.gave x j) d e = apart e

-- ---- Call after call

module _ (s : List ℕ) (r : HpsReader) (ch places : ℕ) where
  -- after a call that gives no samples there are no more
  module _ (d : Decoder) (q : is_samples (decode_answer (decoding s r ch d.position places)) ≡ false) where
    none-heard : (n : ℕ) → heard n s r ch d places ≡ []
    unfolding heard
    none-heard zero = refl
    none-heard (suc n) =
        let a = decoding s r ch d.position places in
        rw (quiet_none a q, quiet_stays a d q) (none-heard n)

    stays-there : (n : ℕ) → decoder_on n s r ch d places ≡ d
    unfolding decoder_on
    stays-there zero = refl
    stays-there (suc n) = rw (quiet_stays (decoding s r ch d.position places) d q) (stays-there n)

  -- each call gives no more than there are places
  few-heard : (a : DecodeAnswer) (i : ℕ) → DecodingSays s r i places a → length (heard_in a) ≤ places
  few-heard (DecodeAnswer.refused k) i e = omega arith
  few-heard DecodeAnswer.ended i e = omega arith
  few-heard (DecodeAnswer.gave x j) i e = e.few

  pub heard-few : (n : ℕ) (d : Decoder) → length (heard n s r ch d places) ≤ n * places
  unfolding heard
  heard-few zero d = omega arith
  heard-few (suc n) d =
      let a = decoding s r ch d.position places in
      let rest = heard n s r ch (decoder_after d a) places in
      omega (arith, length-append (heard_in a) rest, few-heard a d.position (decoding_says s r d.position places ch), heard-few n (decoder_after d a))

-- ---- From a decoder on

module _ (s : List ℕ) (r : HpsReader) (ch : ℕ) where
  -- after a call that gave samples: these, and those from the decoder after it on
  module _ (d : Decoder) {x : Decoded} {j : ℕ} (e : decoding s r ch d.position most_samples ≡ DecodeAnswer.gave x j) where
    calls-left : r.blocks - d.position ≡ suc (r.blocks - j)
    calls-left = let g = rw e at (decoding_says s r d.position most_samples ch) in omega (arith, g.there, g.moved)

    pub heard-next : heard_from s r ch d ≡ x.samples ++ heard_from s r ch (decoder_at j x.context)
    unfolding heard_from heard
    heard-next = rw calls-left (rw e refl)

    pub end_next : end_from s r ch d ≡ end_from s r ch (decoder_at j x.context)
    unfolding end_from decoder_on
    end_next =
        ap (λ (y : Decoder). decode_answer (decoding s r ch y.position most_samples))
        (ap (λ (n : ℕ). decoder_on n s r ch d most_samples) calls-left ∙ ap (λ (a : DecodeAnswer). decoder_on (r.blocks - j) s r ch (decoder_after d a) most_samples) e)

  -- after one that gave none
  module _ (d : Decoder) (q : is_samples (decode_answer (decoding s r ch d.position most_samples)) ≡ false) where
    pub heard-none : heard_from s r ch d ≡ []
    unfolding heard_from
    heard-none = none-heard s r ch most_samples d q (r.blocks - d.position)

    pub end_here : end_from s r ch d ≡ decode_answer (decoding s r ch d.position most_samples)
    unfolding end_from
    end_here = rw (stays-there s r ch most_samples d q (r.blocks - d.position)) refl

-- ---- Printed so far

-- before the first block
pub before-first : (s : List ℕ) (r : HpsReader) (ch : ℕ) → opening s ≡ Opened.opened r → Readable r → Before s r ch new_decoder 0
unfolding channel_samples channel_end heard_from
before-first s r ch e h = record {
  inside = omega arith;
  left = ap (samples_on s ch) e;
  ends = ap (end_on s ch) e;
  few = let n = heard-few s r ch most_samples (r.blocks - 0) new_decoder in let k = h.blocks in rw e (omega (arith, n, k));
}

module _ {s : List ℕ} {r : HpsReader} {ch : ℕ} {d : Decoder} {from : ℕ} (b : Before s r ch d from) where
  -- a call that gave samples, in some places
  module _ {places : ℕ} (l : places ≤ most_samples) {x : Decoded} {j : ℕ} (e : decoding s r ch d.position places ≡ DecodeAnswer.gave x j) where
    given : decoding s r ch d.position most_samples ≡ DecodeAnswer.gave x j
    given =
        decoding-room l s r ch d.position (λ f. absurd (let z : ◌≡◌ {A = ℕ} 0 1 = (let y = sym f ∙ e in cc) in omega arith)) (λ f. sym f ∙ e)

    rest-is : drop from (channel_samples s ch) ≡ x.samples ++ heard_from s r ch (decoder_at j x.context)
    rest-is = b.left ∙ heard-next s r ch d given

    pub samples_next : x.samples ≡ take (length x.samples) (drop from (channel_samples s ch))
    samples_next = sym (rw rest-is (take_at x.samples _ (length x.samples) refl))

    pub inside-next : from + length x.samples ≤ length (channel_samples s ch)
    inside-next =
        omega (arith, b.inside, simp length-drop at (ap length rest-is), length-append x.samples (heard_from s r ch (decoder_at j x.context)))

    pub before-next : Before s r ch (decoder_at j x.context) (from + length x.samples)
    before-next = record {
      inside = inside-next;
      left = sym (drop-drop (length x.samples) from (channel_samples s ch)) ∙ rw rest-is (drop-append_seam x.samples (heard_from s r ch (decoder_at j x.context)));
      ends = b.ends ∙ end_next s r ch d given;
      few = b.few;
    }

  -- a call that gave none with places for every block: all is printed
  module _ (q : is_samples (decode_answer (decoding s r ch d.position most_samples)) ≡ false) where
    pub all_printed : from ≡ length (channel_samples s ch)
    all_printed = omega (arith, b.inside, simp length-drop at (ap length (b.left ∙ heard-none s r ch d q)))

    pub ends_so : channel_end s ch ≡ decode_answer (decoding s r ch d.position most_samples)
    ends_so = b.ends ∙ end_here s r ch d q

-- ---- One call

-- what a call leaves of the places
after-length : (lent : List ℤ) (a : DecodeAnswer) → length (heard_in a) ≤ length lent → length (samples_after lent a) ≡ length lent
after-length lent (DecodeAnswer.refused n) h = refl
after-length lent DecodeAnswer.ended h = refl
after-length lent (DecodeAnswer.gave x j) h = length-append x.samples (drop (length x.samples) lent) ∙ simp length-drop (omega (arith, h))

-- a call from the decoder d on, whose reply is that it filled n places
pub record Step (s : List ℕ) (r : HpsReader) (ch : ℕ) (d : Decoder) (from : ℕ) (next : Decoder) (after : List ℤ) (n : ℕ) : Type 0 where
  pub fits : n ≤ length after
  pub samples : take n after ≡ take n (drop from (channel_samples s ch))
  pub inside : from + n ≤ length (channel_samples s ch)
  pub before : Before s r ch next (from + n)
  pub less : r.blocks - next.position < r.blocks - d.position

module _ (s : List ℕ) (r : HpsReader) (ch : ℕ) (d : Decoder) (lent : List ℤ) where
  abbrev answer : DecodeAnswer
  answer = decoding s r ch d.position (length lent)

  pub same_places : {after : List ℤ} → after ≡ samples_after lent answer → length after ≡ length lent
  same_places v = ap length v ∙ after-length lent answer (few-heard s r ch (length lent) answer d.position (decoding_says s r d.position (length lent) ch))

  step_given : {from : ℕ} → Before s r ch d from → length lent ≤ most_samples → {x : Decoded} {j : ℕ} → answer ≡ DecodeAnswer.gave x j → {n : ℕ} → n ≡ length x.samples
      → {next : Decoder} → next ≡ decoder_at j x.context → {after : List ℤ} → after ≡ samples_after lent answer → Step s r ch d from next after n
  step_given b l {x} {j} is {n} count on {after} v =
      let says = rw is at (decoding_says s r d.position (length lent) ch) in
      let put : after ≡ filled_with x.samples lent = v ∙ ap (samples_after lent) is in
      let long : length after ≡ length lent = same_places v in
      record {
        fits = omega (arith, long, count, says.few);
        samples = rw (put, count) (take_at x.samples _ (length x.samples) refl ∙ samples_next b l is);
        inside = rw count (inside-next b l is);
        before = rw (on, count) (before-next b l is);
        less = rw on (omega (arith, says.there, says.moved));
      }

  pub step : {from : ℕ} → Before s r ch d from → length lent ≤ most_samples → {n : ℕ} → Read.value (Some n) ≡ decode_answer answer
      → {next : Decoder} → next ≡ decoder_after d answer → {after : List ℤ} → after ≡ samples_after lent answer → Step s r ch d from next after n
  step b l f e v = let g = samples_given answer f in step_given b l g.is g.count (e ∙ ap (decoder_after d) g.is) v

-- ---- The end

not_short : (a : DecodeAnswer) → is_short (decode_answer a) ≡ false → a ≡ DecodeAnswer.refused 14 → ⊥
not_short a h e = let k = rw e at h in apart k

-- printed up to a call that gave none: that is all, where that call is the same with places for every block
module _ {s : List ℕ} {r : HpsReader} {ch places : ℕ} {h : Hearing} (t : HeardHere s r ch places h) where
  all-heard : decoding s r ch h.decoder.position places ≡ decoding s r ch h.decoder.position most_samples
      → HeardOf (channel_samples s ch) (channel_end s ch) (Ok h.heard)
  all-heard here =
      let same : ended_says h.heard.end ≡ decode_answer (decoding s r ch h.decoder.position most_samples) = t.end ∙ ap decode_answer here in
      let quiet = rw same at (quiet_end h.heard.end) in
      (all_printed t.before quiet, same ∙ sym (ends_so t.before quiet))

  -- with places for every block
  pub heard-long : places ≡ most_samples → HeardOf (channel_samples s ch) (channel_end s ch) (Ok h.heard)
  heard-long e = all-heard (ap (decoding s r ch h.decoder.position) e)

  -- where more places would not do
  pub heard_short : places ≤ most_samples → is_short (ended_says h.heard.end) ≡ false → HeardOf (channel_samples s ch) (channel_end s ch) (Ok h.heard)
  heard_short l f =
      all-heard (decoding-room l s r ch h.decoder.position (λ e. absurd (not_short _ (rw t.end at f) e)) (λ e. e))

-- ---- A slot that does not open

pub none_of : (s : List ℕ) (ch : ℕ) (e : Refusal) → Opened.refused (number_of e) ≡ opening s
    → HeardOf (channel_samples s ch) (channel_end s ch) (Ok (record { end = Err e; length = 0 }))
unfolding channel_samples channel_end
none_of s ch e o = rw (← o) (refl, refl)

-- ---- Room

-- 14 tells of a block with more samples than places
longer : (s : List ℕ) (r : HpsReader) (ch i : ℕ) {places : ℕ} → decoding s r ch i places ≡ DecodeAnswer.refused 14 → Longer s places
longer s r ch i {places} f = (rw f at (decoding_says s r i places ch)) refl

pub room_for_each : RoomForEach
unfolding RoomForEach opening adpcm_bytes
room_for_each s r e ch i f =
    by_cases (ltb slot_limit (length s))
    (λ t. let g : Opened.refused 7 ≡ Opened.opened r = rw t at e in absurd (let z : ◌≡◌ {A = ℕ} 0 1 = cc in omega arith))
    (λ t.
    let short = ltb-false slot_limit (length s) t in
    let k = longer s r ch i f in
    absurd (omega (arith, short, k.inside, k.longer, samples_most k.data_length 2097152 (omega (arith, k.inside, short)))))
