-- A pin with its filter: put among the others it stands in its place alone; what a call does not change of it is put back as it was; and a step of
-- all pins is a step of each.
-- Assumes nothing.
use mathlib.Core.Path.{◌≡◌, refl, ap, sym, ◌∙◌}
use mathlib.Core.Bool.{Bool, true, false, cond}
use mathlib.Core.List.{List}
use Prim.Native.Nat.{ℕ, ◌^◌, ◌<◌}
use lib.Dec.{eqb}
use borrow.Author.Tests.{eq-eqb, ne_eqb, eqb-true, ltb-true}
use Rattle.words.specs.Bits.{bit, word, put_bit}
use Rattle.words.proofs.BitLaws.{bit_word, word-ext, word-own, bit-there, bit-elsewhere}
use Rattle.words.proofs.Every.{AllGood}
use Rattle.filters.specs.Planes.{number_at, put_number}
use Rattle.filters.specs.Filters.{Filtering, followed, filtering_at, filtered, put_filter}
use Rattle.filters.proofs.PlaneLaws.{planes-ext, planes-own, number-held, number_lt}
use Rattle.filters.proofs.StepLaws.{filtered-at}
use Rattle.ports.specs.Setters.{with_filters}
use Rattle.ports.specs.Pins.{number, pin_at, put_pin, WholePin, whole_at, put_whole, raw_level, raw_levels, sensed, is_pin_word, pins_in_range}
use Rattle.ports.specs.declared.Pin.{Pin}
use Rattle.ports.specs.declared.Pins.{Pins}
use Rattle.ports.proofs.Planes.{held}
use Rattle.ports.proofs.Same.{PinsInRange, pins-fields}

-- ---- a pin that is put stands in its place alone

-- the planes hold three bits of the source number
abbrev stored_pin : Pin → Pin
stored_pin q =
    record {
      source = number (bit q.source 0) (bit q.source 1) (bit q.source 2);
      own = q.own;
      safedata = q.safedata;
      safeenable = q.safeenable;
      level = q.level;
      driven = q.driven;
    }

-- and sixteen planes sixteen bits of a filter and of a wait
unfoldable pub stored_whole : WholePin → WholePin
stored_whole q = record { pin = stored_pin q.pin; filter = word 16 (bit q.filter); wait = word 16 (bit q.wait) }

-- a source number in its range is held
pub source-held : (q : WholePin) → q.pin.source < 7 → (stored_whole q).pin.source ≡ q.pin.source
unfolding stored_whole
source-held q h = held q.pin.source h

module _ (p n : ℕ) (y : List ℕ) where
  number-there : p < 48 → number_at (put_number p n y) p ≡ word 16 (bit n)
  number-there h = number-held _ p h ∙ ap (λ u. word 16 (bit (cond u n (number_at y p)))) (eq-eqb p p refl)

  number-elsewhere : (i : ℕ) → i < 48 → (i ≡ p → ⊥) → number_at (put_number p n y) i ≡ number_at y i
  number-elsewhere i h d =
      number-held _ i h ∙ ap (λ u. word 16 (bit (cond u n (number_at y i)))) (ne_eqb i p d) ∙ word-own 16 (number_at y i) (number_lt y i)

module _ (x : Pins) (p : ℕ) (q : WholePin) where
  pub whole-there : p < 48 → whole_at (put_whole p q x) p ≡ stored_whole q
  unfolding pin_at put_pin whole_at put_whole put_filter stored_whole
  whole-there h = simp (bit-there, number-there) refl

  pub whole-elsewhere : (i : ℕ) → i < 48 → (i ≡ p → ⊥) → whole_at (put_whole p q x) i ≡ whole_at x i
  unfolding pin_at put_pin whole_at put_whole put_filter
  whole-elsewhere i h d = simp (bit-elsewhere, number-elsewhere) refl

-- ---- what is put back

-- what stands at p, put at p
at_own : {A : Type 0} (f : ℕ → A) (p q : ℕ) → cond (eqb q p) (f p) (f q) ≡ f q
at_own f p q = go (eqb q p) refl
  where
    go : (t : Bool) → eqb q p ≡ t → cond t (f p) (f q) ≡ f q
    go true e = ap f (sym (eqb-true q p e))
    go false e = refl

own-bit : (w p : ℕ) → is_pin_word w ≡ true → put_bit 48 p (bit w p) w ≡ w
own-bit w p h = word-ext 48 _ (bit w) (λ q _. at_own (bit w) p q) ∙ word-own 48 w (ltb-true w (2 ^ 48) h)

own-number : (y : List ℕ) (p : ℕ) → AllGood is_pin_word 16 y → put_number p (number_at y p) y ≡ y
own-number y p r =
    planes-ext _ (number_at y) (λ q _. at_own (number_at y) p q) ∙ planes-own y r.places (λ j k. ltb-true _ (2 ^ 48) (r.each j k))

-- the three bits of a source number
source-bits : (a b c : Bool) → (bit (number a b c) 0 ≡ a) × (bit (number a b c) 1 ≡ b) × (bit (number a b c) 2 ≡ c)
unfolding bit
source-bits true true true = (refl, refl, refl)
source-bits true true false = (refl, refl, refl)
source-bits true false true = (refl, refl, refl)
source-bits true false false = (refl, refl, refl)
source-bits false true true = (refl, refl, refl)
source-bits false true false = (refl, refl, refl)
source-bits false false true = (refl, refl, refl)
source-bits false false false = (refl, refl, refl)

module _ (x : Pins) (h : pins_in_range x ≡ true) (p : ℕ) where
  abbrev r : PinsInRange x
  r = pins-fields x h

  own-pin : put_pin p (pin_at x p) x ≡ x
  unfolding put_pin pin_at
  own-pin =
      let s = source-bits (bit x.source0 p) (bit x.source1 p) (bit x.source2 p) in
      λ i. record {
        level = own-bit x.level p r.level i;
        driven = own-bit x.driven p r.driven i;
        own = own-bit x.own p r.own i;
        safedata = own-bit x.safedata p r.safedata i;
        safeenable = own-bit x.safeenable p r.safeenable i;
        source0 = (ap (λ t. put_bit 48 p t x.source0) s.0 ∙ own-bit x.source0 p r.source0) i;
        source1 = (ap (λ t. put_bit 48 p t x.source1) s.1 ∙ own-bit x.source1 p r.source1) i;
        source2 = (ap (λ t. put_bit 48 p t x.source2) s.2 ∙ own-bit x.source2 p r.source2) i;
        filters = x.filters;
      }

  -- another pin, and its filter as it was
  pub put-own-filter : (q : Pin) → put_whole p (record { pin = q; filter = (whole_at x p).filter; wait = (whole_at x p).wait }) x ≡ put_pin p q x
  unfolding put_whole whole_at put_filter put_pin
  put-own-filter q =
      ap (λ y. with_filters y (put_pin p q x))
      (λ i. record { filter = own-number x.filters.filter p r.filter i; wait = own-number x.filters.wait p r.wait i })

  -- another filter, and the pin as it was
  pub put-own-pin : (f w : ℕ) → put_whole p (record { pin = (whole_at x p).pin; filter = f; wait = w }) x ≡ with_filters (put_filter p f w x.filters) x
  unfolding put_whole whole_at
  put-own-pin f w = ap (with_filters (put_filter p f w x.filters)) own-pin

-- ---- a step

-- a pin's filtered level, its filter and its wait
abbrev pub filtering_of : WholePin → Filtering
filtering_of q = record { level = q.pin.level; filter = q.filter; wait = q.wait }

-- a pin after a step of it with its filter
abbrev pub sensed_pin : Bool → WholePin → WholePin
sensed_pin raw q =
    let f : Filtering = followed raw (filtering_of q) in
    record {
      pin = record {
        source = q.pin.source;
        own = q.pin.own;
        safedata = q.pin.safedata;
        safeenable = q.pin.safeenable;
        level = f.level;
        driven = q.pin.driven;
      };
      filter = f.filter;
      wait = f.wait;
    }

pub sensed-at : (x : Pins) (w p : ℕ) → p < 48 → whole_at (sensed w x) p ≡ sensed_pin (raw_level x w p) (whole_at x p)
unfolding whole_at pin_at sensed filtered filtering_at
sensed-at x w p h =
    let e = filtered-at x.filters (raw_levels x w) x.level p h
    ∙ ap (λ t. followed t (filtering_at x.filters x.level p)) (bit_word 48 (raw_level x w) p h) in
    λ i. record {
      pin = record {
        source = (pin_at x p).source;
        own = (pin_at x p).own;
        safedata = (pin_at x p).safedata;
        safeenable = (pin_at x p).safeenable;
        level = (e i).level;
        driven = (pin_at x p).driven;
      };
      filter = (e i).filter;
      wait = (e i).wait;
    }
