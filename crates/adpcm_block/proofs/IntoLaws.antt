-- A block decoded into lent places: which of its three answers it has, and what the places then hold.
use Prim.Native.Nat.{ℕ, ◌≤◌, ◌<◌}
use mathlib.Core.Path.{◌≡◌, refl, sym, ap, ◌∙◌}
use mathlib.Core.List.{List, ◌++◌}
use native.Mathlib.Omega.{arith}
use lib.ListN.{length, drop}
use lib.Dec.{ltb, leb}
use lib.IntN.{ℤ}
use borrow.Author.Tests.{lt-ltb, le-ltb, leb-true}
use Rattle.layout.specs.Records.{Read, field, adpcm_bytes, adpcm_samples}
use Rattle.layout.specs.declared.FrameContext.{FrameContext}
use Rattle.layout.proofs.FieldLaws.{field-inside, field_past}
use Rattle.layout.proofs.Cases.{by_cases}
use Rattle.adpcm_block.specs.Block.{Decoded, block_decoded, decoded_into, context_read, lent_after}
use Rattle.adpcm_block.proofs.CountLaws.{block-count}

module _ (places : ℕ) (cs : List ℤ) (c : FrameContext) (n : ℕ) (bs : List ℕ) where
  pub data_short : length bs < adpcm_bytes n → decoded_into places cs c n bs ≡ Read.refused 1
  unfolding decoded_into
  data_short h = rw (field_past bs (adpcm_bytes n) (block_decoded cs c n bs) h)

  pub places_few : adpcm_bytes n ≤ length bs → places < adpcm_samples n → decoded_into places cs c n bs ≡ Read.refused 14
  unfolding decoded_into
  places_few h l = rw (field-inside bs (adpcm_bytes n) (block_decoded cs c n bs) h) (rw (lt-ltb places (adpcm_samples n) l))

  pub all_there : adpcm_bytes n ≤ length bs → adpcm_samples n ≤ places → decoded_into places cs c n bs ≡ Read.value (block_decoded cs c n bs)
  unfolding decoded_into
  all_there h l = rw (field-inside bs (adpcm_bytes n) (block_decoded cs c n bs) h) (rw (le-ltb places (adpcm_samples n) l))

  -- what is refused leaves the places
  pub refused_leaves : (lent : List ℤ) {k : ℕ} → decoded_into places cs c n bs ≡ Read.refused k
      → (Read.refused k ≡ context_read (decoded_into places cs c n bs)) × (lent ≡ lent_after (decoded_into places cs c n bs) lent)
  refused_leaves lent e = rw e (refl, refl)

  -- the places from the first on
  pub decoded_fills : adpcm_bytes n ≤ length bs → adpcm_samples n ≤ places → (lent : List ℤ) {now : List ℤ} {after : FrameContext}
      → after ≡ (block_decoded cs c n bs).context → now ≡ (block_decoded cs c n bs).samples ++ drop (adpcm_samples n) lent
      → (Read.value after ≡ context_read (decoded_into places cs c n bs)) × (now ≡ lent_after (decoded_into places cs c n bs) lent)
  decoded_fills h l lent {now} {after} e v =
      rw (all_there h l) (ap Read.value e, v ∙ ap (λ (k : ℕ). (block_decoded cs c n bs).samples ++ drop k lent) (sym (block-count cs c n bs h)))

apart : {A P : Type 0} {a : A} {n : ℕ} → Read.value a ≡ Read.refused n → P
apart e = absurd (let z : ◌≡◌ {A = ℕ} 0 1 = cc in omega arith)

same : {A : Type 0} {a b : A} → Read.value a ≡ Read.value b → a ≡ b
same e = cc

-- a context that is given: of what was decoded, which has as many samples as are counted
pub record ContextGiven (d : Read Decoded) (n : ℕ) (after : FrameContext) : Type 0 where
  pub decoded : Decoded
  pub is : d ≡ Read.value decoded
  pub context : after ≡ decoded.context
  pub count : adpcm_samples n ≡ length decoded.samples

pub context-given : (places : ℕ) (cs : List ℤ) (c : FrameContext) (n : ℕ) (bs : List ℕ) {after : FrameContext}
    → Read.value after ≡ context_read (decoded_into places cs c n bs) → ContextGiven (decoded_into places cs c n bs) n after
unfolding decoded_into field
context-given places cs c n bs {after} e =
    by_cases (leb (adpcm_bytes n) (length bs))
    (λ t.
    by_cases (ltb places (adpcm_samples n))
    (λ u. apart (rw (t, u) at e))
    (λ u.
    record {
      decoded = block_decoded cs c n bs;
      is = rw (t, u);
      context = same (rw (t, u) at e);
      count = sym (block-count cs c n bs (leb-true (adpcm_bytes n) (length bs) t));
    }))
    (λ t. apart (rw t at e))

-- a refusal that is given
pub refusal_given : (d : Read Decoded) {k : ℕ} → Read.refused k ≡ context_read d → d ≡ Read.refused k
refusal_given (Read.refused m) {k} e = ap Read.refused (let h : m ≡ k = cc in h)
refusal_given (Read.value x) e = apart (sym e)
