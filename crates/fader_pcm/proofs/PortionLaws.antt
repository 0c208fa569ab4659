-- Samples as bytes, faded portion after portion.
use Prim.Native.Nat.{ℕ, ◌+◌, ◌-◌, ◌*◌, ◌/◌, ◌%◌, ◌≤◌, min}
use mathlib.Core.Path.{◌≡◌, refl, sym, ap, ◌∙◌}
use mathlib.Core.List.{List, [], ◌++◌, append_assoc, append-nil}
use native.Mathlib.Omega.{arith}
use lib.ListN.{length, take, drop, length-append, length-drop, drop_of_length-le}
use lib.Seq.{length-take-le, take_at, drop_at, take-add, take_all, drop-drop, drop-append_seam}
use lib.IntN.{ℤ}
use Rattle.pcm_bytes.specs.Pcm.{pcm_bytes, pcm_samples}
use Rattle.pcm_bytes.proofs.PcmLaws.{pcm_length, pcm_append}
use Rattle.pcm_bytes.proofs.GotLaws.{samples_length, samples_append, samples_from}
use Rattle.fader.specs.Fader.{level_limit, curve_entry, faded_by, fading, samples_after}
use Rattle.fader.proofs.FadeLaws.{faded-length, faded-append, within}
use Rattle.fader_pcm.specs.FadedPcm.{pcm_fading, bytes_after, first_faded}

-- ---- One portion

-- n samples of some bytes are got into places
pub record Got (bytes : List ℕ) (places got : List ℤ) (n : ℕ) : Type 0 where
  pub few : n ≡ min (length places) (length bytes / 2)
  pub is : got ≡ take n (pcm_samples bytes) ++ drop n places

module _ {bytes : List ℕ} {places got : List ℤ} {n : ℕ} (p : Got bytes places got n) where
  count : length (take n (pcm_samples bytes)) ≡ n
  count = length-take-le n (pcm_samples bytes) (omega (arith, samples_length bytes, p.few))

  got_size : length got ≡ length places
  got_size =
      ap length p.is ∙ length-append (take n (pcm_samples bytes)) (drop n places) ∙ omega (arith, count, length-drop n places, p.few)

  pub got-room : n ≡ length (take n got)
  got-room = sym (length-take-le n got (omega (arith, got_size, p.few)))

  got-first : take n got ≡ take n (pcm_samples bytes)
  got-first = ap (take n) p.is ∙ take_at (take n (pcm_samples bytes)) (drop n places) n count

-- and faded
pub record GotFaded (level : ℕ) (bytes : List ℕ) (places got : List ℤ) (n : ℕ) (faded : List ℤ) : Type 0 where
  pub gets : Got bytes places got n
  pub low : level ≤ level_limit
  pub is : faded ≡ samples_after (take n got) (fading level (take n got))

module _ {level : ℕ} {bytes : List ℕ} {places got : List ℤ} {n : ℕ} {faded : List ℤ} (p : GotFaded level bytes places got n faded) where
  faded-first : faded ≡ faded_by (curve_entry level) (take n (pcm_samples bytes))
  faded-first = (rw (within level (take n got) p.low) at p.is) ∙ ap (faded_by (curve_entry level)) (got-first p.gets)

  faded-count : length faded ≡ n
  faded-count = ap length faded-first ∙ faded-length (curve_entry level) (take n (pcm_samples bytes)) ∙ count p.gets

  back : take n (faded ++ drop n got) ≡ faded
  back = take_at faded (drop n got) n faded-count

  pub faded-room : n ≡ length (take n (faded ++ drop n got))
  faded-room = sym (ap length back ∙ faded-count)

  -- and put
  pub portion_put : {m : ℕ} {after : List ℕ} → m ≡ min (length (take n (faded ++ drop n got))) (length bytes / 2)
      → after ≡ pcm_bytes (take m (take n (faded ++ drop n got))) ++ drop (2 * m) bytes
      → (m ≡ min (length places) (length bytes / 2)) × ((after ≡ first_faded level m bytes) × (length (faded ++ drop n got) ≡ length places))
  unfolding first_faded
  portion_put {m} {after} d e =
      let q : m ≡ n = omega (arith, faded-room, p.gets.few) in
      let whole : after ≡ pcm_bytes (take n (take n (faded ++ drop n got))) ++ drop (2 * n) bytes = rw q at e in
      let put : after ≡ first_faded level n bytes = rw (back, take_all n faded (omega (arith, faded-count)), faded-first) at whole in
      (q ∙ p.gets.few, (rw q put, length-append faded (drop n got) ∙ omega (arith, faded-count, got_size p.gets, length-drop n got, p.gets.few)))

-- ---- Portion after portion

-- the bytes of the first n samples of some bytes, faded
abbrev faded_to : (level n : ℕ) → List ℕ → List ℕ
faded_to level n bytes = pcm_bytes (faded_by (curve_entry level) (take n (pcm_samples bytes)))

to_length : (level n : ℕ) (bytes : List ℕ) → 2 * n ≤ length bytes → length (faded_to level n bytes) ≡ 2 * n
to_length level n bytes h =
    pcm_length (faded_by (curve_entry level) (take n (pcm_samples bytes)))
    ∙ ap (λ (k : ℕ). 2 * k) (faded-length (curve_entry level) (take n (pcm_samples bytes)) ∙ length-take-le n (pcm_samples bytes) (omega (arith, samples_length bytes)))

to_add : (level k n : ℕ) (bytes : List ℕ) → faded_to level (k + n) bytes ≡ faded_to level k bytes ++ faded_to level n (drop (2 * k) bytes)
to_add level k n bytes =
    let e = curve_entry level in
    let xs = pcm_samples bytes in
    rw (samples_from k bytes)
    (ap (λ (l : List ℤ). pcm_bytes (faded_by e l)) (take-add k n xs) ∙ ap pcm_bytes (faded-append e (take k xs) (take n (drop k xs)))
    ∙ pcm_append (faded_by e (take k xs)) (faded_by e (take n (drop k xs))))

-- so many samples are faded, in the first `at` bytes
pub record Faded (level : ℕ) (before after : List ℕ) (at : ℕ) : Type 0 where
  pub count : ℕ
  pub two : at ≡ 2 * count
  pub inside : at ≤ length before
  pub is : after ≡ first_faded level count before

pub faded-none : (level : ℕ) (bytes : List ℕ) → Faded level bytes bytes 0
unfolding first_faded faded_by pcm_bytes
faded-none level bytes = record { count = 0; two = refl; inside = omega arith; is = refl }

module _ {level : ℕ} {before after : List ℕ} {at : ℕ} (p : Faded level before after at) where
  front : length (faded_to level p.count before) ≡ at
  front = to_length level p.count before (omega (arith, p.two, p.inside)) ∙ sym p.two

  first : take at after ≡ faded_to level p.count before
  unfolding first_faded
  first = ap (take at) p.is ∙ take_at (faded_to level p.count before) (drop (2 * p.count) before) at front

  rest : drop at after ≡ drop (2 * p.count) before
  unfolding first_faded
  rest = ap (drop at) p.is ∙ drop_at (faded_to level p.count before) (drop (2 * p.count) before) at front

  pub faded_size : length after ≡ length before
  unfolding first_faded
  faded_size =
      ap length p.is ∙ length-append (faded_to level p.count before) (drop (2 * p.count) before)
      ∙ omega (arith, front, p.two, p.inside, length-drop (2 * p.count) before)

  -- the bytes from the next portion on, and those behind them
  mid : take (length after - at) (drop at after) ≡ drop (2 * p.count) before
  mid = take_all (length after - at) (drop at after) (omega (arith, length-drop at after)) ∙ rest

  post : drop (length after - at) (drop at after) ≡ []
  post = drop_of_length-le (drop at after) {i = length after - at} (omega (arith, length-drop at after))

  module _ (places : ℕ) {n : ℕ} {next : List ℕ} (c : n ≡ min places (length (take (length after - at) (drop at after)) / 2))
      (e : next ≡ first_faded level n (take (length after - at) (drop at after))) where
    left : length (take (length after - at) (drop at after)) + at ≡ length before
    left = omega (arith, ap length mid, length-drop (2 * p.count) before, p.two, p.inside)

    more-is : take at after ++ (next ++ drop (length after - at) (drop at after)) ≡ first_faded level (p.count + n) before
    unfolding first_faded
    more-is =
        let k = p.count in
        let on : next ≡ faded_to level n (drop (2 * k) before) ++ drop (2 * n) (drop (2 * k) before) = e ∙ ap (first_faded level n) mid in
        let two : 2 * k + 2 * n ≡ 2 * (k + n) = omega arith in
        let far : drop (2 * n) (drop (2 * k) before) ≡ drop (2 * (k + n)) before =
        drop-drop (2 * n) (2 * k) before ∙ ap (λ (j : ℕ). drop j before) two in
        rw (post, append-nil next, first, on, far, to_add level k n before)
        (sym (append_assoc (faded_to level k before) (faded_to level n (drop (2 * k) before)) (drop (2 * (k + n)) before)))

    pub faded-more : Faded level before (take at after ++ (next ++ drop (length after - at) (drop at after))) (at + 2 * n)
    faded-more = record { count = p.count + n; two = omega (arith, p.two); inside = omega (arith, left, c); is = more-is }

    -- no sample was left
    pub faded-all : level ≤ level_limit → places ≡ 4096 → n ≡ 0
        → take at after ++ (next ++ drop (length after - at) (drop at after)) ≡ bytes_after before (pcm_fading level before)
    unfolding first_faded
    faded-all low room none =
        let xs = pcm_samples before in
        let q : p.count + n ≡ length xs = omega (arith, left, c, p.two, samples_length before) in
        rw (within level xs low, faded-length (curve_entry level) xs)
        (rw (q, take_all (length xs) xs (omega arith)) at more-is)

-- ---- Whole inputs

after_is : (level : ℕ) (bytes : List ℕ) → level ≤ level_limit
    → bytes_after bytes (pcm_fading level bytes) ≡ pcm_bytes (faded_by (curve_entry level) (pcm_samples bytes)) ++ drop (2 * length (pcm_samples bytes)) bytes
after_is level bytes h = rw (within level (pcm_samples bytes) h, faded-length (curve_entry level) (pcm_samples bytes))

pub portions : (level : ℕ) → level ≤ level_limit → (first rest : List ℕ) → length first % 2 ≡ 0
    → bytes_after (first ++ rest) (pcm_fading level (first ++ rest)) ≡ bytes_after first (pcm_fading level first) ++ bytes_after rest (pcm_fading level rest)
portions level h first rest even =
    let e = curve_entry level in
    let xs = pcm_samples first in
    let ys = pcm_samples rest in
    let both = samples_append first rest (omega (arith, even)) in
    let bytes : pcm_bytes (faded_by e (pcm_samples (first ++ rest))) ≡ pcm_bytes (faded_by e xs) ++ pcm_bytes (faded_by e ys) =
    ap (λ (l : List ℤ). pcm_bytes (faded_by e l)) both ∙ ap pcm_bytes (faded-append e xs ys) ∙ pcm_append (faded_by e xs) (faded_by e ys) in
    let count : 2 * length (pcm_samples (first ++ rest)) ≡ length first + 2 * length ys =
    omega (arith, ap length both, length-append xs ys, samples_length first) in
    let none : drop (2 * length xs) first ≡ [] = drop_of_length-le first {i = 2 * length xs} (omega (arith, samples_length first)) in
    let left : drop (2 * length (pcm_samples (first ++ rest))) (first ++ rest) ≡ drop (2 * length ys) rest =
    ap (λ (n : ℕ). drop n (first ++ rest)) count ∙ sym (drop-drop (2 * length ys) (length first) (first ++ rest)) ∙ ap (drop (2 * length ys)) (drop-append_seam first rest) in
    rw (after_is level (first ++ rest) h, after_is level first h, after_is level rest h, bytes, left, none, append-nil (pcm_bytes (faded_by e xs)))
    (append_assoc (pcm_bytes (faded_by e xs)) (pcm_bytes (faded_by e ys)) (drop (2 * length ys) rest))
