-- All pins with some of their words changed.
-- Assumes nothing.
use Rattle.std.specs.Prelude.{ℕ}
use Rattle.filters.specs.declared.Filters.{Filters}
use Rattle.ports.specs.declared.Pins.{Pins}

abbrev pub with_level : ℕ → Pins → Pins
with_level w x =
    record {
      level = w;
      driven = x.driven;
      own = x.own;
      safedata = x.safedata;
      safeenable = x.safeenable;
      source0 = x.source0;
      source1 = x.source1;
      source2 = x.source2;
      filters = x.filters;
    }

abbrev pub with_driven : ℕ → Pins → Pins
with_driven w x =
    record {
      level = x.level;
      driven = w;
      own = x.own;
      safedata = x.safedata;
      safeenable = x.safeenable;
      source0 = x.source0;
      source1 = x.source1;
      source2 = x.source2;
      filters = x.filters;
    }

abbrev pub with_filters : Filters → Pins → Pins
with_filters y x =
    record {
      level = x.level;
      driven = x.driven;
      own = x.own;
      safedata = x.safedata;
      safeenable = x.safeenable;
      source0 = x.source0;
      source1 = x.source1;
      source2 = x.source2;
      filters = y;
    }
