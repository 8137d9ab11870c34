-- Pins and virtual outputs in range, field by field. The repair leaves such records alone, and makes them.
-- Assumes nothing.
use mathlib.Core.Path.{◌≡◌, refl, ap, ◌∙◌}
use mathlib.Core.Bool.{Bool, true, false, not, ◌&&◌, and-true, and-eq-true_iff}
use Prim.Native.Nat.{ℕ, ◌^◌, ◌<◌}
use lib.Dec.{eqb}
use borrow.Author.Tests.{ltb-true, lt-ltb}
use Rattle.words.specs.Bits.{bit, word, every}
use Rattle.words.proofs.BitLaws.{bit_word, word-own, word-ext, word_lt}
use Rattle.words.proofs.Every.{every-at, every-by, every-ext, word_none, reset-good, AllGood, good-each, good-all, good-same, good-reset}
use Rattle.words.proofs.Tables.{length-tab, get_or-tab}
use Rattle.filters.specs.Planes.{planes}
use Rattle.ports.specs.Pins.{number, pin_at, is_source, is_pin_word, reset_pins, pins_in_range, mended, repaired_words, repaired_sources, repaired_pins}
use Rattle.ports.specs.Virtuals.{is_output_word, reset_virtuals, virtuals_in_range, repaired_virtuals}
use Rattle.ports.specs.declared.Pins.{Pins}
use Rattle.ports.specs.declared.Virtuals.{Virtuals}
use Rattle.ports.proofs.Planes.{not-seven}

-- ---- the pins, field by field

pub record PinsInRange (x : Pins) : Type 0 where
  pub level : is_pin_word x.level ≡ true
  pub driven : is_pin_word x.driven ≡ true
  pub own : is_pin_word x.own ≡ true
  pub safedata : is_pin_word x.safedata ≡ true
  pub safeenable : is_pin_word x.safeenable ≡ true
  pub source0 : is_pin_word x.source0 ≡ true
  pub source1 : is_pin_word x.source1 ≡ true
  pub source2 : is_pin_word x.source2 ≡ true
  pub source : (p : ℕ) → p < 48 → is_source (pin_at x p).source ≡ true
  pub filter : AllGood is_pin_word 16 x.filters.filter
  pub wait : AllGood is_pin_word 16 x.filters.wait

-- a word of 48 bits made from its bits
pub pin-word : (f : ℕ → Bool) → is_pin_word (word 48 f) ≡ true
pin-word f = lt-ltb _ _ (word_lt 48 f)

-- and the planes of any numbers
pub plane-words : (f : ℕ → ℕ) → AllGood is_pin_word 16 (planes f)
unfolding planes
plane-words f = record { places = length-tab 16 _; each = λ j k. rw get_or-tab (pin-word _) }

module _ (x : Pins) where
  pub pins-fields : pins_in_range x ≡ true → PinsInRange x
  unfolding pins_in_range
  pins-fields h =
      let h₁₀ = (and-eq-true_iff _ _).0 h in
      let h₉ = (and-eq-true_iff _ _).0 h₁₀.0 in
      let h₈ = (and-eq-true_iff _ _).0 h₉.0 in
      let h₇ = (and-eq-true_iff _ _).0 h₈.0 in
      let h₆ = (and-eq-true_iff _ _).0 h₇.0 in
      let h₅ = (and-eq-true_iff _ _).0 h₆.0 in
      let h₄ = (and-eq-true_iff _ _).0 h₅.0 in
      let h₃ = (and-eq-true_iff _ _).0 h₄.0 in
      let h₂ = (and-eq-true_iff _ _).0 h₃.0 in
      let h₁ = (and-eq-true_iff _ _).0 h₂.0 in
      record {
        level = h₁.0;
        driven = h₁.1;
        own = h₂.1;
        safedata = h₃.1;
        safeenable = h₄.1;
        source0 = h₅.1;
        source1 = h₆.1;
        source2 = h₇.1;
        source = every-at 48 _ h₈.1;
        filter = good-each h₉.1;
        wait = good-each h₁₀.1;
      }

  pub pins-whole : PinsInRange x → pins_in_range x ≡ true
  unfolding pins_in_range
  pins-whole r =
      rw (r.level, r.driven, r.own, r.safedata, r.safeenable, r.source0, r.source1, r.source2, good-all r.filter, good-all r.wait)
      (rw (every-by 48 _ r.source))

-- ---- the repair of the pins

module _ (x : Pins) (r : PinsInRange x) where
  words_same : repaired_words x ≡ x
  unfolding repaired_words
  words_same =
      rw (r.level, r.driven, r.own, r.safedata, r.safeenable, r.source0, r.source1, r.source2, good-same 0 r.filter, good-same 0 r.wait)

  plane-same : (s : ℕ) → is_pin_word s ≡ true → mended x s ≡ s
  plane-same s h =
      word-ext 48 _ (bit s) (λ p k. ap (λ t. bit s p && t) (r.source p k) ∙ and-true (bit s p)) ∙ word-own 48 s (ltb-true s (2 ^ 48) h)

  sources-same : repaired_sources x ≡ x
  unfolding repaired_sources
  sources-same = λ i. record {
    level = x.level;
    driven = x.driven;
    own = x.own;
    safedata = x.safedata;
    safeenable = x.safeenable;
    source0 = plane-same x.source0 r.source0 i;
    source1 = plane-same x.source1 r.source1 i;
    source2 = plane-same x.source2 r.source2 i;
    filters = x.filters;
  }

pub pins-same : (x : Pins) → pins_in_range x ≡ true → repaired_pins x ≡ x
unfolding repaired_pins
pins-same x h = let r = pins-fields x h in ap repaired_sources (words_same x r) ∙ sources-same x r

-- three bits of a source number that is outside its range are put to 0
mended-source : (a b c : Bool) → is_source (number (a && is_source (number a b c)) (b && is_source (number a b c)) (c && is_source (number a b c))) ≡ true
mended-source true true true = refl
mended-source true true false = refl
mended-source true false true = refl
mended-source true false false = refl
mended-source false true true = refl
mended-source false true false = refl
mended-source false false true = refl
mended-source false false false = refl

sources-repaired : (x : Pins) (p : ℕ) → p < 48 → is_source (pin_at (repaired_sources x) p).source ≡ true
unfolding repaired_sources pin_at
sources-repaired x p k = simp bit_word (mended-source (bit x.source0 p) (bit x.source1 p) (bit x.source2 p))

pub pins-repaired : (x : Pins) → pins_in_range (repaired_pins x) ≡ true
unfolding repaired_pins repaired_sources repaired_words reset_pins
pins-repaired x =
    let good = reset-good is_pin_word in
    pins-whole (repaired_pins x) (record {
      level = good 0 refl x.level;
      driven = good 0 refl x.driven;
      own = good 0 refl x.own;
      safedata = good 0 refl x.safedata;
      safeenable = good (word 48 (λ p. true)) (pin-word _) x.safeenable;
      source0 = pin-word _;
      source1 = pin-word _;
      source2 = pin-word _;
      source = sources-repaired (repaired_words x);
      filter = good-reset is_pin_word 0 16 x.filters.filter refl;
      wait = good-reset is_pin_word 0 16 x.filters.wait refl;
    })

-- `low` holds the bits of the first two planes; no bit of it is in the third where every source number is in its range
pub all-sources : (x : Pins) (low : ℕ) → low ≡ word 48 (λ p. bit x.source0 p && bit x.source1 p)
    → eqb (word 48 (λ p. bit low p && bit x.source2 p)) 0 ≡ every 48 (λ p. is_source (pin_at x p).source)
unfolding pin_at
all-sources x low e =
    word_none 48 _
    ∙ every-ext 48 _ _ (λ p k.
    ap (λ t. not (t && bit x.source2 p)) (ap (λ v. bit v p) e ∙ bit_word 48 _ p k)
    ∙ not-seven (bit x.source0 p) (bit x.source1 p) (bit x.source2 p))

-- ---- the virtual outputs

pub record VirtualsInRange (x : Virtuals) : Type 0 where
  pub own : is_output_word x.own ≡ true
  pub safedata : is_output_word x.safedata ≡ true
  pub safeenable : is_output_word x.safeenable ≡ true

pub output-word : (f : ℕ → Bool) → is_output_word (word 6 f) ≡ true
output-word f = lt-ltb _ _ (word_lt 6 f)

module _ (x : Virtuals) where
  pub virtuals-fields : virtuals_in_range x ≡ true → VirtualsInRange x
  unfolding virtuals_in_range
  virtuals-fields h =
      let h₂ = (and-eq-true_iff _ _).0 h in
      let h₁ = (and-eq-true_iff _ _).0 h₂.0 in
      record { own = h₁.0; safedata = h₁.1; safeenable = h₂.1 }

  pub virtuals-whole : VirtualsInRange x → virtuals_in_range x ≡ true
  unfolding virtuals_in_range
  virtuals-whole r = rw (r.own, r.safedata, r.safeenable)

  pub virtuals-same : virtuals_in_range x ≡ true → repaired_virtuals x ≡ x
  unfolding repaired_virtuals
  virtuals-same h = let r = virtuals-fields h in rw (r.own, r.safedata, r.safeenable)

pub virtuals-repaired : (x : Virtuals) → virtuals_in_range (repaired_virtuals x) ≡ true
unfolding repaired_virtuals reset_virtuals
virtuals-repaired x = virtuals-whole (repaired_virtuals x) (record {
  own = reset-good is_output_word 0 refl x.own;
  safedata = reset-good is_output_word 0 refl x.safedata;
  safeenable = reset-good is_output_word (word 6 (λ o. true)) (output-word _) x.safeenable;
})
