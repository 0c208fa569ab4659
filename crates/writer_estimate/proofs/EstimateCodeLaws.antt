-- For the proof of estimate: what is due by a length, what a block may take, and the sum over the lengths.
use Prim.Native.Nat.{ℕ, ◌+◌, ◌*◌, ◌<◌, ◌≤◌}
use mathlib.Core.Path.{◌≡◌, refl, sym, ◌∙◌}
use mathlib.Core.List.{List, [], ◌∷◌}
use native.Mathlib.Omega.{arith}
use native.Mathlib.Nat.{mul-le-mul}
use native.Mathlib.Numerals.{add-one}
use borrow.Author.Tests.{le-ltb, eq-eqb, eqb-false, ltb-false}
use lib.Dec.{eqb, lit<}
use lib.ListN.{length, get_or, drop, drop_of_length-le}
use lib.Seq.{drop-cons}
use Rattle.layout.specs.Choice.{pick}
use Rattle.layout.specs.Lists.{sum}
use Rattle.layout.specs.Records.{padded_size, adpcm_bytes, file_header_size, block_header_size, alignment}
use Rattle.layout.specs.Refusals.{due, first_due, size_limit, too_short, too_large, block_limit, mono_limit}
use Rattle.layout.specs.Sizes.{saturated}
use Rattle.layout.proofs.Cases.{by_cases, none-due}
use Rattle.layout.proofs.SizeLaws.{aligned}
use Rattle.writer.specs.Estimate.{lengths_due, estimate_refusal, estimated, estimate_of}
use Rattle.layout.specs.Answers.{number_of}
use Rattle.layout.specs.declared.refusal.Refusal.{Refusal}
use Rattle.writer.specs.Loading.{accepted, refused}
use Rattle.writer.proofs.DueLaws.{not_zero}
use Rattle.writer.proofs.GoodLaws.{short_length}

-- ---- One length

abbrev pub by_length : (channels data_length : ℕ) → ℕ
by_length ch n = first_due (due 10 (too_short n) ∷ due 13 (too_large ch n) ∷ [])

module _ (ch n : ℕ) where
  pub bytes_few : by_length ch n ≡ 0 → adpcm_bytes n ≤ mono_limit
  unfolding adpcm_bytes
  bytes_few h =
      let a = none-due 10 (too_short n) _ (lit< tt) h in
      let b = none-due 13 (too_large ch n) _ (lit< tt) a.1 in
      omega (arith, short_length n ch (ltb-false (size_limit ch) (adpcm_bytes n) b.0))

  by_first : (ns : List ℕ) → first_due (lengths_due ch (n ∷ ns)) ≡ pick (eqb (by_length ch n) 0) (first_due (lengths_due ch ns)) (by_length ch n)
  unfolding lengths_due first_due
  by_first ns = by_cases (too_short n) (λ q. rw q) (λ q. by_cases (too_large ch n) (λ p. rw (q, p)) (λ p. rw (q, p)))

-- ---- One block

padded_size_few : (n : ℕ) → n ≤ mono_limit → padded_size n ≤ mono_limit
unfolding padded_size
padded_size_few n h = omega arith

-- The most that a block may take, without its cues.
abbrev pub most_block : ℕ
most_block = block_header_size + 2 * mono_limit

abbrev pub for_block : (channels data_length : ℕ) → ℕ
for_block ch n = block_header_size + ch * padded_size (adpcm_bytes n)

block-few : (ch n : ℕ) → ch ≤ 2 → adpcm_bytes n ≤ mono_limit → for_block ch n ≤ most_block
block-few ch n c h = let m = mul-le-mul c (padded_size_few (adpcm_bytes n) h) in omega arith

module _ (ch n x s : ℕ) (ex : x ≡ adpcm_bytes n) (es : s ≡ saturated (padded_size x)) (h : (ch ≤ 2) × (adpcm_bytes n ≤ mono_limit)) where
  pub is_block : block_header_size + ch * s ≡ for_block ch n
  is_block = rw (es, ex, aligned (adpcm_bytes n) (omega arith))

  pub block-fits : block_header_size + ch * s ≤ most_block
  block-fits = rw is_block (block-few ch n h.0 h.1)

-- ---- The sum

-- i lengths are passed, none refused, and their blocks are in the sum
pub record Summed (ch : ℕ) (ns : List ℕ) (total i : ℕ) : Type 0 where
  pub few : i ≤ length ns
  pub many : length ns ≤ block_limit
  pub passed : first_due (lengths_due ch ns) ≡ first_due (lengths_due ch (drop i ns))
  pub rest : total + sum (for_block ch) (drop i ns) ≡ file_header_size + sum (for_block ch) ns
  pub small : total ≤ file_header_size + most_block * i

module _ (ch : ℕ) (ns : List ℕ) (total i : ℕ) (s : Summed ch ns total i) (h : i < length ns) where
  here : drop i ns ≡ get_or ns i 0 ∷ drop (i + 1) ns
  here = rw (drop-cons ns i 0 h, add-one)

  first : first_due (lengths_due ch ns) ≡ pick (eqb (by_length ch (get_or ns i 0)) 0) (first_due (lengths_due ch (drop (i + 1) ns))) (by_length ch (get_or ns i 0))
  first = s.passed ∙ rw (here, by_first ch (get_or ns i 0) (drop (i + 1) ns))

  pub refused_here : (x : Refusal) → number_of x ≡ by_length ch (get_or ns i 0) → first_due (lengths_due ch ns) ≡ number_of x
  refused_here x e = first ∙ rw (← e, not_zero x)

  pub summed_on : (b : ℕ) → ch ≤ 2 → 0 ≡ by_length ch (get_or ns i 0) → b ≡ for_block ch (get_or ns i 0) → Summed ch ns (total + b) (i + 1)
  unfolding sum
  summed_on b c z eb =
      let f = block-few ch (get_or ns i 0) c (bytes_few ch (get_or ns i 0) (sym z)) in
      let few = s.small in
      let d = rw here at s.rest in
      record {
        few = omega arith;
        many = s.many;
        passed = first ∙ rw (← z);
        rest = omega arith;
        small = omega arith;
      }

-- ---- The answer

module _ (ch : ℕ) (ns : List ℕ) (p : ℕ) (two : (ch ≡ 1 → ⊥) → ch ≡ 2) (few : length ns ≤ block_limit) where
  counted : estimate_refusal ch ns ≡ first_due (lengths_due ch ns)
  unfolding estimate_refusal first_due
  counted = by_cases (eqb ch 1) (λ q. rw (q, le-ltb block_limit (length ns) few)) (λ q. rw (q, eq-eqb ch 2 (two (eqb-false ch 1 q)), le-ltb block_limit (length ns) few))

  pub refused_length : (x : Refusal) → first_due (lengths_due ch ns) ≡ number_of x → refused (number_of x) ≡ estimate_of ch ns p
  unfolding estimate_of
  refused_length x e = rw (counted, e, not_zero x)

  pub all_summed : (total i : ℕ) → Summed ch ns total i → length ns ≤ i → accepted (total + alignment * p) ≡ estimate_of ch ns p
  unfolding estimate_of estimated lengths_due sum first_due
  all_summed total i s h =
      let e : drop i ns ≡ [] = drop_of_length-le ns {i = i} h in
      let z : estimate_refusal ch ns ≡ 0 = counted ∙ s.passed ∙ rw e in
      let t : total ≡ file_header_size + sum (for_block ch) ns = let r = rw e at s.rest in omega arith in
      rw (z, t)
