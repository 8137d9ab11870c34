-- Document 02, request 6: the noise filters of the 48 pins. The definition is pin by pin; all filters and all waits stand in bit planes.
-- Assumes nothing.
use Rattle.std.specs.Prelude.{Bool, cond, ℕ, ◌+◌, ltb, replicate}
use Rattle.std.specs.Bool.{beq}
use Rattle.words.specs.Bits.{bit, word}
use Rattle.filters.specs.Planes.{number_at, planes, put_number}
use Rattle.filters.specs.declared.Filters.{Filters}
use Rattle.filters.specs.declared.Filtered.{Filtered}

-- ---- one pin

-- its filtered level, its filter F, and for how many steps in a row its raw level has differed from the filtered one
pub record Filtering : Type 0 where
  pub level : Bool
  pub filter : ℕ
  pub wait : ℕ

-- a step with this raw level: where the levels agree the wait begins afresh; where they have now differed for F + 1 steps in a row, this one included,
-- the filtered level takes the raw level; else the wait goes on
unfoldable pub followed : Bool → Filtering → Filtering
followed raw q =
    cond (beq raw q.level)
    (record { level = q.level; filter = q.filter; wait = 0 })
    (cond (ltb q.filter (q.wait + 1))
    (record { level = raw; filter = q.filter; wait = 0 })
    (record { level = q.level; filter = q.filter; wait = q.wait + 1 }))

-- ---- all pins

-- pin p, whose filtered level is bit p of `level`
unfoldable pub filtering_at : Filters → ℕ → ℕ → Filtering
filtering_at x level p = record { level = bit level p; filter = number_at x.filter p; wait = number_at x.wait p }

-- pin p after a step, whose raw level is bit p of `raw`
abbrev pub followed_at : Filters → ℕ → ℕ → ℕ → Filtering
followed_at x raw level p = followed (bit raw p) (filtering_at x level p)

-- a step of every pin: the next waits, and the filtered levels
unfoldable pub filtered : ℕ → ℕ → Filters → Filtered
filtered raw level x =
    record {
      filters = record { filter = x.filter; wait = planes (λ p. (followed_at x raw level p).wait) };
      level = word 48 (λ p. (followed_at x raw level p).level);
    }

-- pin p's filter at f and its wait at w
unfoldable pub put_filter : ℕ → ℕ → ℕ → Filters → Filters
put_filter p f w x = record { filter = put_number p f x.filter; wait = put_number p w x.wait }

-- at reset every filter and every wait is 0
unfoldable pub reset_filters : Filters
reset_filters = record { filter = replicate 16 0; wait = replicate 16 0 }
