-- The 48 pins: bit p of each word is pin p's. Document 01, "The step", parts 2 and 6, the filters of request 6, and the pins of a board handed in.
-- Assumes nothing.
use Rattle.std.specs.Prelude.{Bool, true, false, cond, ◌&&◌, ◌||◌, ℕ, ◌-◌, ◌^◌, ltb}
use Rattle.words.specs.Bits.{bit, flags, word, every, put_bit}
use Rattle.words.specs.Range.{or_reset, all_good, all_or_reset}
use Rattle.filters.specs.Planes.{number_at}
use Rattle.filters.specs.Filters.{filtered, put_filter, reset_filters}
use Rattle.filters.specs.declared.Filtered.{Filtered}
use Rattle.ports.specs.Setters.{with_level, with_driven, with_filters}
use Rattle.ports.specs.declared.Pin.{Pin}
use Rattle.ports.specs.declared.Pins.{Pins}

-- the source number whose three bits stand in the three planes
abbrev pub number : Bool → Bool → Bool → ℕ
number a b c = flags a b c false

-- pin p's own record; its level is the filtered one
unfoldable pub pin_at : Pins → ℕ → Pin
pin_at x p =
    record {
      source = number (bit x.source0 p) (bit x.source1 p) (bit x.source2 p);
      own = bit x.own p;
      safedata = bit x.safedata p;
      safeenable = bit x.safeenable p;
      level = bit x.level p;
      driven = bit x.driven p;
    }

-- the pins with the record q in the place of pin p's
unfoldable pub put_pin : ℕ → Pin → Pins → Pins
put_pin p q x =
    record {
      level = put_bit 48 p q.level x.level;
      driven = put_bit 48 p q.driven x.driven;
      own = put_bit 48 p q.own x.own;
      safedata = put_bit 48 p q.safedata x.safedata;
      safeenable = put_bit 48 p q.safeenable x.safeenable;
      source0 = put_bit 48 p (bit q.source 0) x.source0;
      source1 = put_bit 48 p (bit q.source 1) x.source1;
      source2 = put_bit 48 p (bit q.source 2) x.source2;
      filters = x.filters;
    }

-- a pin with its filter, and with for how many steps in a row its raw level has differed
pub record WholePin : Type 0 where
  pub pin : Pin
  pub filter : ℕ
  pub wait : ℕ

unfoldable pub whole_at : Pins → ℕ → WholePin
whole_at x p = record { pin = pin_at x p; filter = number_at x.filters.filter p; wait = number_at x.filters.wait p }

unfoldable pub put_whole : ℕ → WholePin → Pins → Pins
put_whole p q x = with_filters (put_filter p q.filter q.wait x.filters) (put_pin p q.pin x)

-- part 2: a pin's raw level is 1 if its external level, bit p of w, is 1 or its driven value of the last step is 1
unfoldable pub raw_level : Pins → ℕ → ℕ → Bool
raw_level x w p = bit w p || (pin_at x p).driven

abbrev pub raw_levels : Pins → ℕ → ℕ
raw_levels x w = word 48 (raw_level x w)

-- the filtered levels follow the raw ones, each by its filter (request 6)
unfoldable pub sensed : ℕ → Pins → Pins
sensed w x =
    let r : Filtered = filtered (raw_levels x w) x.level x.filters in
    with_filters r.filters (with_level r.level x)

-- a source number is 0 for the own register, or names one of six channels
abbrev pub is_source : ℕ → Bool
is_source s = ltb s 7

-- what a source number gives: 1 to 6 the ExtOut of channel 0 to 5, which is a bit of `outs`; else the own register
abbrev pub sourced : ℕ → Bool → ℕ → Bool
sourced s own outs = cond (ltb 0 s && is_source s) (bit outs (s - 1)) own

-- part 6: a pin is driven with its safe data if safemode and its safe enable are 1, else with its source
abbrev pub driven_by : ℕ → Bool → Pin → Bool
driven_by outs safemode q = cond (safemode && q.safeenable) q.safedata (sourced q.source q.own outs)

unfoldable pub driven : ℕ → Bool → Pins → Pins
driven outs safemode x = with_driven (word 48 (λ p. driven_by outs safemode (pin_at x p))) x

-- at reset all is 0, but every safe enable 1
unfoldable pub reset_pins : Pins
reset_pins =
    record {
      level = 0;
      driven = 0;
      own = 0;
      safedata = 0;
      safeenable = word 48 (λ p. true);
      source0 = 0;
      source1 = 0;
      source2 = 0;
      filters = reset_filters;
    }

-- a word of the pins has 48 bits
abbrev pub is_pin_word : ℕ → Bool
is_pin_word w = ltb w (2 ^ 48)

-- every word, every source number and every plane is in its range; each number that planes hold is one of 16 bits
unfoldable pub pins_in_range : Pins → Bool
pins_in_range x =
    is_pin_word x.level
    && is_pin_word x.driven
    && is_pin_word x.own
    && is_pin_word x.safedata
    && is_pin_word x.safeenable
    && is_pin_word x.source0
    && is_pin_word x.source1
    && is_pin_word x.source2
    && every 48 (λ p. is_source (pin_at x p).source)
    && all_good is_pin_word 16 x.filters.filter
    && all_good is_pin_word 16 x.filters.wait

-- a word outside its range counts as at reset, and so does a plane
unfoldable pub repaired_words : Pins → Pins
repaired_words x =
    record {
      level = or_reset is_pin_word reset_pins.level x.level;
      driven = or_reset is_pin_word reset_pins.driven x.driven;
      own = or_reset is_pin_word reset_pins.own x.own;
      safedata = or_reset is_pin_word reset_pins.safedata x.safedata;
      safeenable = or_reset is_pin_word reset_pins.safeenable x.safeenable;
      source0 = or_reset is_pin_word reset_pins.source0 x.source0;
      source1 = or_reset is_pin_word reset_pins.source1 x.source1;
      source2 = or_reset is_pin_word reset_pins.source2 x.source2;
      filters = record { filter = all_or_reset is_pin_word 0 16 x.filters.filter; wait = all_or_reset is_pin_word 0 16 x.filters.wait };
    }

-- a plane without the pins whose source number is outside its range, so that this number is 0
abbrev pub mended : Pins → ℕ → ℕ
mended x s = word 48 (λ p. bit s p && is_source (pin_at x p).source)

unfoldable pub repaired_sources : Pins → Pins
repaired_sources x =
    record {
      level = x.level;
      driven = x.driven;
      own = x.own;
      safedata = x.safedata;
      safeenable = x.safeenable;
      source0 = mended x x.source0;
      source1 = mended x x.source1;
      source2 = mended x x.source2;
      filters = x.filters;
    }

-- the pins of a board handed in: the words first, then the source numbers that stand in them
unfoldable pub repaired_pins : Pins → Pins
repaired_pins x = repaired_sources (repaired_words x)
